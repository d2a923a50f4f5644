-- What a load and a store make of the picture, by the ledger's arrays.
use Rattle.std.proofs.Common.{◌≡◌, ℕ, ◌-◌, ◌<◌, Bool, true, false, not, ◌&&◌, nat_le, ltb, eqb, List, [], ◌∷◌, ◌++◌, length, get_or, set, Some, None, Ok, Err, Option, sym, refl, ap, ◌∙◌, arith}
use Rattle.std.specs.List.{AllWithin, HoldsAt, enumerate_from}
use Rattle.std.specs.Option.{IsSome, MatchOption}
use Rattle.std.proofs.lemmas.List.FromFn.{get_or-enumerate_from, length-enumerate_from}
use Rattle.std.proofs.lemmas.List.{set-get_or}
use Rattle.std.proofs.lemmas.Bool.{eqb-true, eqb-false}
use Rattle.std.proofs.lemmas.Bool.Decides.{nat_tests}
use Rattle.fault.specs.declared.Fault.{Fault}
use Rattle.marks.specs.States.{debit_of}
use Rattle.book.specs.Holdings.{first_below, Lowest, is_in_the_way}
use Rattle.book.specs.Marking.{marked, noted, gathered, copy_or_split, with_copy, read_by, load_answer, one_taken, written_if, all_taken}
use Rattle.book.specs.Picture.{Marks, Picture, credit_of, holdings_of}
use Rattle.book.specs.declared.Take.TheVariants.{Store}
use Rattle.book.proofs.Below.{lowest-only}
use Rattle.book.proofs.Loads.{load_refused, load_granted}
use Rattle.book.proofs.Stores.{store_refused, store_granted}
use Rattle.board.specs.Shown.{marks_of}
use Rattle.board.specs.Tables.{seat_of, log_of, logs_in, picture_of}
use Rattle.board.specs.declared.block.Block.{Block}
use Rattle.board.specs.declared.ledger.Account.{Account}
use Rattle.board.proofs.Drawings.{block_drawn, block_at, seat_at, log_at, noted-drawn}

-- the block and the account that a load works on
pub record Loading (blocks : List Block) (accounts : List Account) (t b i j : ℕ) (k d : Block) (e : Account) : Type 0 where
  pub thread : i ≡ t
  pub thread_in : i < length accounts
  pub block : j ≡ b
  pub block_in : j < length blocks
  pub marks : marks_of k ≡ with_copy (marks_of (get_or blocks j d)) (seat_of (get_or accounts i e)) (read_by t (copy_or_split (marks_of (get_or blocks j d)) (seat_of (get_or accounts i e))))

pub loading : {blocks : List Block} {accounts : List Account} {t b i j : ℕ} {k d : Block} {e : Account} → i ≡ t → i < length accounts → j ≡ b → j < length blocks →
    marks_of k ≡ with_copy (marks_of (get_or blocks j d)) (seat_of (get_or accounts i e)) (read_by t (copy_or_split (marks_of (get_or blocks j d)) (seat_of (get_or accounts i e)))) → Loading blocks accounts t b i j k d e
loading thread thread_in block block_in marks = record { thread = thread; thread_in = thread_in; block = block; block_in = block_in; marks = marks }

load_drawn : {blocks : List Block} {accounts : List Account} {t b i j : ℕ} {k d : Block} {e : Account} → Loading blocks accounts t b i j k d e →
    (let p = picture_of blocks accounts in picture_of (set blocks j k) accounts ≡ marked p b (with_copy (p.marks b) (p.seats t) (read_by t (copy_or_split (p.marks b) (p.seats t)))))
load_drawn {blocks} {accounts} {t} {b} {i} {j} {k} {d} {e} w =
    let here = block_at blocks b j d w.block w.block_in in
    let sits = seat_at accounts t i e w.thread w.thread_in in
    block_drawn blocks accounts b j k _ w.block w.block_in (rw (here, sits) w.marks)

-- the lowest thread in the way is the first one of the others whose log has credit on the block
has_credit : (n : ℕ) → nat_le 1 n ≡ ltb 0 n
has_credit n = grind (arith, nat_tests)

abbrev pub bars : ℕ → ℕ → ℕ × Account → Bool
bars t b p = not (eqb p.0 t) && ltb 0 (credit_of b (log_of p.1))

bars_at : (blocks : List Block) (accounts : List Account) (t b i : ℕ) (d : Account) → i < length accounts → is_in_the_way Store (holdings_of (picture_of blocks accounts)) t b i ≡ bars t b (get_or (enumerate_from 0 accounts) i (0, d))
bars_at blocks accounts t b i d l =
    let place = get_or-enumerate_from 0 accounts i (0, d) l ∙ ap (λ (n : ℕ). (n, get_or accounts i d)) (omega arith) in
    ap (λ yes. not (eqb i t) && yes) (has_credit (credit_of b (logs_in accounts i)) ∙ ap (λ rs. ltb 0 (credit_of b rs)) (log_at accounts i i d refl l))
    ∙ sym (ap (bars t b) place)

pub lowest_first : (blocks : List Block) (accounts : List Account) (t b : ℕ) (o : Option ℕ) → length accounts ≡ 16 →
    (let all = enumerate_from 0 accounts in MatchOption o (AllWithin (λ p. bars t b p ≡ false) all 0 (length all)) (λ i. (i < length all) × HoldsAt (λ p. bars t b p ≡ true) all i × AllWithin (λ p. bars t b p ≡ false) all 0 i)) →
    Lowest (is_in_the_way Store (holdings_of (picture_of blocks accounts)) t b) 16 o
lowest_first blocks [] t b o n h = absurd (let z : ⊥ = omega arith in z)
lowest_first blocks (a ∷ rest) t b None n h =
    let long = length-enumerate_from 0 (a ∷ rest) in
    λ j l. bars_at blocks (a ∷ rest) t b j a (omega arith) ∙ h j (0, a) (omega arith) (omega arith)
lowest_first blocks (a ∷ rest) t b (Some i) n h =
    let long = length-enumerate_from 0 (a ∷ rest) in
    let below = h.0 in (
      omega arith,
      bars_at blocks (a ∷ rest) t b i a (omega arith) ∙ h.1 (0, a),
      λ j l. bars_at blocks (a ∷ rest) t b j a (omega arith) ∙ h.2 j (0, a) (omega arith) l,
    )

-- a load that is refused, and one that is granted
pub load_refused_drawn : {blocks : List Block} {accounts : List Account} {t b i j : ℕ} {k d : Block} {e : Account} {f : Fault} → Loading blocks accounts t b i j k d e → load_answer (copy_or_split (marks_of (get_or blocks j d)) (seat_of (get_or accounts i e))) ≡ Err f →
    picture_of (set blocks j k) (set accounts i (get_or accounts i e)) ≡ one_taken (picture_of blocks accounts) t b
load_refused_drawn {blocks} {accounts} {t} {b} {i} {j} {k} {d} {e} {f} w r =
    let here = block_at blocks b j d w.block w.block_in in
    let sits = seat_at accounts t i e w.thread w.thread_in in
    ap (picture_of (set blocks j k)) (set-get_or accounts i e)
    ∙ load_drawn w
    ∙ load_refused (picture_of blocks accounts) t b f (rw (here, sits) r)

pub load_granted_drawn : {blocks : List Block} {accounts : List Account} {t b i j : ℕ} {k d : Block} {e : Account} {c x : ℕ} {u : Unit {0}} (a : Account) → Loading blocks accounts t b i j k d e → load_answer (copy_or_split (marks_of (get_or blocks j d)) (seat_of (get_or accounts i e))) ≡ Ok u →
    c ≡ b → x ≡ 1 → seat_of a ≡ seat_of (get_or accounts i e) → log_of a ≡ log_of (get_or accounts i e) ++ record { block = c; count = x } ∷ [] →
    picture_of (set blocks j k) (set accounts i a) ≡ one_taken (picture_of blocks accounts) t b
load_granted_drawn {blocks} {accounts} {t} {b} {i} {j} {k} {d} {e} {c} {x} {u} a w r q y s n =
    let here = block_at blocks b j d w.block w.block_in in
    let sits = seat_at accounts t i e w.thread w.thread_in in
    noted-drawn (set blocks j k) accounts t b 1 i c x a e w.thread w.thread_in q y s n
    ∙ ap (λ (p : Picture). noted p t b 1) (load_drawn w)
    ∙ load_granted (picture_of blocks accounts) t b u (rw (here, sits) r)

-- the block that a store gathers, and whether it is granted there
pub record Storing (blocks : List Block) (accounts : List Account) (t b j : ℕ) (g k d : Block) (credit : ℕ) (grant : Bool) : Type 0 where
  pub block : j ≡ b
  pub block_in : j < length blocks
  pub gathers : marks_of g ≡ gathered (marks_of (get_or blocks j d))
  pub written : marks_of k ≡ written_if grant t (marks_of g)
  pub told : grant ≡ eqb (debit_of (marks_of g).home) credit
  pub own : credit ≡ holdings_of (picture_of blocks accounts) t b

pub storing : {blocks : List Block} {accounts : List Account} {t b j : ℕ} {g k d : Block} {credit : ℕ} {grant : Bool} → j ≡ b → j < length blocks → marks_of g ≡ gathered (marks_of (get_or blocks j d)) →
    marks_of k ≡ written_if grant t (marks_of g) → grant ≡ eqb (debit_of (marks_of g).home) credit → credit ≡ holdings_of (picture_of blocks accounts) t b → Storing blocks accounts t b j g k d credit grant
storing block block_in gathers written told own = record { block = block; block_in = block_in; gathers = gathers; written = written; told = told; own = own }

store_drawn : {blocks : List Block} {accounts : List Account} {t b j : ℕ} {g k d : Block} {credit : ℕ} {grant : Bool} → Storing blocks accounts t b j g k d credit grant →
    (let p = picture_of blocks accounts in picture_of (set blocks j k) accounts ≡ marked p b (written_if grant t (gathered (p.marks b))))
store_drawn {blocks} {accounts} {t} {b} {j} {g} {k} {d} {credit} {grant} w =
    let here = block_at blocks b j d w.block w.block_in in
    block_drawn blocks accounts b j k _ w.block w.block_in (w.written ∙ ap (written_if grant t) (w.gathers ∙ ap gathered (sym here)))

-- granted where the debit is the thread's own credit
pub store_own : {blocks : List Block} {accounts : List Account} {t b j : ℕ} {g k d : Block} {credit : ℕ} → Storing blocks accounts t b j g k d credit true →
    (let p = picture_of blocks accounts in debit_of (gathered (p.marks b)).home ≡ credit_of b (p.logs t))
store_own {blocks} {accounts} {t} {b} {j} {g} {k} {d} {credit} w =
    ap (λ (m : Marks). debit_of (gathered m).home) (block_at blocks b j d w.block w.block_in)
    ∙ sym (ap (λ (m : Marks). debit_of m.home) w.gathers)
    ∙ eqb-true _ _ (sym w.told)
    ∙ w.own

pub store_apart : {blocks : List Block} {accounts : List Account} {t b j : ℕ} {g k d : Block} {credit : ℕ} → Storing blocks accounts t b j g k d credit false →
    (let p = picture_of blocks accounts in debit_of (gathered (p.marks b)).home ≡ credit_of b (p.logs t)) → ⊥
store_apart {blocks} {accounts} {t} {b} {j} {g} {k} {d} {credit} w e =
    let here = block_at blocks b j d w.block w.block_in in
    eqb-false _ _ (sym w.told) (ap (λ (m : Marks). debit_of m.home) w.gathers ∙ ap (λ (m : Marks). debit_of (gathered m).home) (sym here) ∙ e ∙ sym w.own)

-- a store that is refused, and one that is granted
pub store_refused_drawn : {blocks : List Block} {accounts : List Account} {t b j : ℕ} {g k d : Block} {credit : ℕ} → Storing blocks accounts t b j g k d credit false → picture_of (set blocks j k) accounts ≡ all_taken (picture_of blocks accounts) t b
store_refused_drawn {blocks} {accounts} {t} {b} {j} {g} {k} {d} {credit} w =
    store_drawn w ∙ store_refused (picture_of blocks accounts) t b (store_apart w)

pub store_granted_drawn : {blocks : List Block} {accounts : List Account} {t b j : ℕ} {g k d : Block} {credit : ℕ} {i c x : ℕ} (a e : Account) → Storing blocks accounts t b j g k d credit true →
    i ≡ t → i < length accounts → c ≡ b → x ≡ 64 - credit → seat_of a ≡ seat_of (get_or accounts i e) → log_of a ≡ log_of (get_or accounts i e) ++ record { block = c; count = x } ∷ [] →
    picture_of (set blocks j k) (set accounts i a) ≡ all_taken (picture_of blocks accounts) t b
store_granted_drawn {blocks} {accounts} {t} {b} {j} {g} {k} {d} {credit} {i} {c} {x} a e w q l r y s n =
    let rest = credit_of b ((picture_of blocks accounts).logs t) in
    noted-drawn (set blocks j k) accounts t b (64 - rest) i c x a e q l r (y ∙ ap (λ n. 64 - n) w.own) s n
    ∙ ap (λ (p : Picture). noted p t b (64 - rest)) (store_drawn w)
    ∙ store_granted (picture_of blocks accounts) t b (store_own w)

-- where some thread has to be in the way, one is found
pub some_lowest : (P : ℕ → Bool) (n : ℕ) (o : Option ℕ) → (first_below P n ≡ None → ⊥) → Lowest P n o → IsSome o
some_lowest P n None ne h = absurd (ne (lowest-only P n None h))
some_lowest P n (Some u) ne h = refl
