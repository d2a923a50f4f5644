-- What a thread table means: the entries of its threads, by number.
use Rattle.std.specs.Prelude.{ℕ, List, map, replicate, slice_index_or}
use Rattle.threads.specs.Entries.{View, entry_of, idle}
use Rattle.threads.specs.declared.Table.{Table}

unfoldable pub table_of : Table → List View
table_of t = map entry_of t.entries

-- a number that is no thread's has the entry of an idle thread
abbrev pub entry_at : List View → ℕ → View
entry_at es t = slice_index_or es t idle

unfoldable pub all_idle : List View
all_idle = replicate 16 idle
