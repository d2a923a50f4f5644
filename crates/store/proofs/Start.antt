-- A fresh store has what the empty history leads to.
use Rattle.std.proofs.Common.{◌≡◌, ℕ, ◌<◌, List, [], length, get_or, refl, ap, ◌∙◌}
use Rattle.threads.specs.Tables.{entry_at, all_idle}
use Rattle.threads.proofs.Tables.{length-all_idle, at_all_idle}
use Rattle.store.specs.States.{State}
use Rattle.store.specs.Histories.{open_job, serial_words, Agrees, EndedLoads}
use Rattle.store.specs.Rules.{Answers}
use Rattle.store.specs.Reached.{Reached}
use Rattle.store.proofs.Alone.{latest_none}
use Rattle.store.proofs.Blocks.{no_holding}
use Rattle.store.proofs.Undo.{records_none}

pub reached_fresh : (m : List ℕ) (s : State) → s.words ≡ m → s.table ≡ all_idle → ((t b : ℕ) → t < 16 → s.holds t b ≡ 0) → Reached m [] s
unfolding open_job serial_words Agrees EndedLoads Answers
reached_fresh m s words table holds =
    record {
      size = ap length words;
      threads = ap length table ∙ length-all_idle;
      open? = λ t l. ap (λ es. (entry_at es t).is_open) table ∙ ap (λ v. v.is_open) (at_all_idle t);
      above = λ t l. refl;
      logged = λ t l. ap (λ es. (entry_at es t).undo) table ∙ ap (λ v. v.undo) (at_all_idle t) ∙ records_none m;
      held = λ t b l. holds t b l ∙ no_holding b;
      stored = λ t a w l i e. let f = latest_none a in cc;
      serial = λ a i none. ap (λ ws. get_or ws a 0) words;
      open_loads = λ t l. tt;
      ended_loads = tt;
      answers = tt;
    }
