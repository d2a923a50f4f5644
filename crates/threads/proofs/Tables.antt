-- A thread table as the list of what its entries mean.
use Rattle.std.proofs.Common.{◌≡◌, ℕ, ◌<◌, ◌≤◌, length, get_or, set, replicate, sym, refl, ap, ◌∙◌, ⊎_elim, arith}
use Rattle.std.proofs.lemmas.List.{get_or-map, get_or_past, get_or-replicate, length-map, map-set, set_past}
use Rattle.std.proofs.lemmas.Bool.{cases_lt}
use Rattle.threads.specs.Entries.{View, entry_of, idle}
use Rattle.threads.specs.Tables.{table_of, entry_at, all_idle}
use Rattle.threads.specs.declared.Table.{Table}
use Rattle.threads.specs.declared.entry.Entry.{Entry}

-- a table has 16 entries
pub length-table : (s : Table) → length (table_of s) ≡ 16
unfolding table_of
length-table s = length-map s.entries entry_of ∙ s.whole

-- the entry of a thread; e stands for what is read elsewhere, and does not matter
pub at_thread : (s : Table) (t : ℕ) (e : Entry) → t < 16 → entry_at (table_of s) t ≡ entry_of (get_or s.entries t e)
unfolding table_of
at_thread s t e l = get_or-map entry_of s.entries t e idle (omega (arith, s.whole))

-- the same, by the entry that was read
pub read_thread : (s : Table) (t : ℕ) (e : Entry) → t < 16 → e ≡ get_or s.entries t e → entry_at (table_of s) t ≡ entry_of e
read_thread s t e l is = at_thread s t e l ∙ ap entry_of (sym is)

-- no thread has a number above 15: nothing is read there, and nothing is put there
pub at_no_thread : (s : Table) (t : ℕ) → 16 ≤ t → entry_at (table_of s) t ≡ idle
at_no_thread s t l = get_or_past (table_of s) t idle (omega (arith, length-table s))

pub put_no_thread : (s : Table) (t : ℕ) (v : View) → 16 ≤ t → table_of s ≡ set (table_of s) t v
put_no_thread s t v l = sym (set_past (table_of s) t v (omega (arith, length-table s)))

pub length-all_idle : length all_idle ≡ 16
unfolding all_idle
length-all_idle = refl

pub at_all_idle : (t : ℕ) → entry_at all_idle t ≡ idle
unfolding all_idle
at_all_idle t = ⊎_elim (get_or-replicate 16 t idle idle) (get_or_past (replicate 16 idle) t idle) (cases_lt t 16)

-- what a call needs that reads or changes the entry of one thread
pub ruleset by_thread = (read_thread, at_no_thread, put_no_thread, map-set)
