-- The thread table: an entry replaced, and what it allows is what the history allows.
use Rattle.std.proofs.Common.{◌≡◌, ℕ, ◌<◌, Bool, true, false, cond, ltb, List, length, set, is_some, Err, sym, refl, ap, arith}
use Rattle.std.proofs.lemmas.List.{get_or-set_same, get_or-set_other}
use Rattle.std.proofs.lemmas.Bool.{ltb-true}
use Rattle.fault.specs.declared.Fault.{Fault}
use Rattle.fault.specs.declared.Refusal.TheVariants.{ThreadOutOfRange, JobOpen, NoJobOpen}
use Rattle.threads.specs.Entries.{View, idle}
use Rattle.threads.specs.Judgement.{Verdict, allowed, refused, judged, judge_of}
use Rattle.threads.specs.Tables.{entry_at}
use Rattle.threads.specs.declared.entry.Request.TheVariants.{Begin as Begins}
use Rattle.store.specs.States.{State}
use Rattle.store.specs.Histories.{History, Event, Access, events, open_job}
use Rattle.store.specs.Rules.{begin_rule, open_rule}
use Rattle.store.specs.Reached.{Reached}

-- the entry of a thread after one is replaced
pub entry_same : (es : List View) (t : ℕ) (v : View) → length es ≡ 16 → t < 16 → entry_at (set es t v) t ≡ v
entry_same es t v n l = get_or-set_same es t v idle (omega arith)

pub entry_other : (es : List View) (t : ℕ) (v : View) (u : ℕ) → (t ≡ u → ⊥) → entry_at (set es t v) u ≡ entry_at es u
entry_other es t v u ne = get_or-set_other es t u v idle (λ is. ne (sym is))

module _ (m : List ℕ) (h : History) (s : State) (reached : Reached m h s) (t : ℕ) where
  pub judge_begin : judge_of s.table t Begins ≡ begin_rule (events h) t
  judge_begin = go (ltb t 16) refl
    where
      go : (q : Bool) → ltb t 16 ≡ q → cond q (judged t (entry_at s.table t) Begins) (refused (ThreadOutOfRange t)) ≡ cond q (cond (is_some (open_job (events h) t)) (refused (JobOpen t)) allowed) (refused (ThreadOutOfRange t))
      go true e = ap (λ p. cond p (refused (JobOpen t)) allowed) (reached.open? t (ltb-true t 16 e))
      go false e = refl

  -- the four other calls ask for an open job
  pub judge_open : cond (ltb t 16) (cond (entry_at s.table t).is_open allowed (refused (NoJobOpen t))) (refused (ThreadOutOfRange t)) ≡ open_rule (events h) t
  judge_open = go (ltb t 16) refl
    where
      go : (q : Bool) → ltb t 16 ≡ q → cond q (cond (entry_at s.table t).is_open allowed (refused (NoJobOpen t))) (refused (ThreadOutOfRange t)) ≡ cond q (cond (is_some (open_job (events h) t)) allowed (refused (NoJobOpen t))) (refused (ThreadOutOfRange t))
      go true e = ap (λ p. cond p allowed (refused (NoJobOpen t))) (reached.open? t (ltb-true t 16 e))
      go false e = refl

-- how the two rules can go
pub data BeginWay (es : List (Event Access)) (t : ℕ) : Verdict → Type 0 where
  begin_refused : (why : Fault) → BeginWay es t (Err why)
  begin_allowed : t < 16 → is_some (open_job es t) ≡ false → BeginWay es t allowed

pub begin_way : (es : List (Event Access)) (t : ℕ) → BeginWay es t (begin_rule es t)
begin_way es t = go (ltb t 16) (is_some (open_job es t)) refl refl
  where
    go : (p q : Bool) → ltb t 16 ≡ p → is_some (open_job es t) ≡ q → BeginWay es t (cond p (cond q (refused (JobOpen t)) allowed) (refused (ThreadOutOfRange t)))
    go false q e f = begin_refused _
    go true true e f = begin_refused _
    go true false e f = begin_allowed (ltb-true t 16 e) f

-- the rule of an open job, once the thread's number and its job are looked at
abbrev pub open_by : ℕ → Bool → Bool → Verdict
open_by t p q = cond p (cond q allowed (refused (NoJobOpen t))) (refused (ThreadOutOfRange t))

pub data OpenWay (es : List (Event Access)) (t : ℕ) : Verdict → Type 0 where
  open_refused : (why : Fault) → OpenWay es t (Err why)
  open_allowed : t < 16 → is_some (open_job es t) ≡ true → OpenWay es t allowed

pub open_way : (es : List (Event Access)) (t : ℕ) → OpenWay es t (open_rule es t)
open_way es t = go (ltb t 16) (is_some (open_job es t)) refl refl
  where
    go : (p q : Bool) → ltb t 16 ≡ p → is_some (open_job es t) ≡ q → OpenWay es t (open_by t p q)
    go false q e f = open_refused _
    go true false e f = open_refused _
    go true true e f = open_allowed (ltb-true t 16 e) f
