-- The undo logs of a thread table: how long they are, and what one record more makes logged.
use Rattle.std.proofs.Common.{◌≡◌, ℕ, zero, suc, ◌≤◌, false, ◌||◌, eqb, List, [], ◌∷◌, ◌++◌, map, length, get_or, refl, arith}
use Rattle.std.proofs.lemmas.Grind.{common_steps}
use Rattle.record_log.proofs.Search.{latest_push}
use Rattle.record_log.specs.Latest.{latest_of}
use Rattle.std.proofs.lemmas.List.{length-take}
use Rattle.threads.specs.Entries.{entry_of, idle, logged_in}
use Rattle.threads.specs.Tables.{table_of, entry_at}
use Rattle.threads.specs.declared.Table.{Table}
use Rattle.threads.specs.declared.entry.Entry.{Entry}
use Rattle.threads.specs.declared.record.Undo.{Undo}

pub logged_none : (a : ℕ) → logged_in [] a ≡ false
unfolding latest_of
logged_none a = refl

pub logged-push : (us : List Undo) (u : Undo) (a : ℕ) → logged_in (us ++ u ∷ []) a ≡ (eqb u.address a || logged_in us a)
logged-push us u a = grind (arith, common_steps, latest_push)

fits_entry : (e : Entry) → length (entry_of e).undo ≤ 64
fits_entry e = omega (arith, length-take e.undo.count e.undo.items, e.undo.fits)

fits_at : (es : List Entry) (t : ℕ) → length (get_or (map entry_of es) t idle).undo ≤ 64
fits_at [] t = omega arith
fits_at (e ∷ es) zero = fits_entry e
fits_at (e ∷ es) (suc t) = fits_at es t

-- no log of a table has more than 64 records
pub fits_table : (s : Table) (t : ℕ) → length (entry_at (table_of s) t).undo ≤ 64
unfolding table_of
fits_table s t = fits_at s.entries t
