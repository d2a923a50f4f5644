-- What a thread's state and the room in its log allow.
use Rattle.std.specs.Prelude.{ℕ, cond, ◌||◌, List, length, Ok, Err, Result, nat_lt}
use Rattle.fault.specs.declared.Fault.{Fault}
use Rattle.fault.specs.declared.Layer.TheVariants.{Store as InStore}
use Rattle.fault.specs.declared.Refusal.{Refusal}
use Rattle.fault.specs.declared.Refusal.TheVariants.{ThreadOutOfRange, JobOpen, NoJobOpen, UndoLogFull}
use Rattle.threads.specs.Entries.{View, logged_in}
use Rattle.threads.specs.Tables.{entry_at}
use Rattle.threads.specs.declared.entry.Request.{Request}
use Rattle.threads.specs.declared.entry.Request.TheVariants.{Begin, Load, Store, Commit, Abort}
use Rattle.threads.specs.declared.record.Undo.{Undo}

abbrev pub Verdict : Type 0
Verdict = Result (Unit {0}) Fault

abbrev pub allowed : Verdict
allowed = Ok tt

abbrev pub store_fault : Refusal → Fault
store_fault why = record { layer = InStore; refusal = why }

abbrev pub refused : Refusal → Verdict
refused why = Err (store_fault why)

-- threads are numbered from 0 to 15
abbrev pub thread_in : ℕ → Verdict
thread_in t = cond (nat_lt t 16) allowed (refused (ThreadOutOfRange t))

-- only an idle thread begins, and only an open one does anything else
abbrev pub judged : ℕ → View → Request → Verdict
judged t v Begin = cond v.is_open (refused (JobOpen t)) allowed
judged t v Load = cond v.is_open allowed (refused (NoJobOpen t))
judged t v Store = cond v.is_open allowed (refused (NoJobOpen t))
judged t v Commit = cond v.is_open allowed (refused (NoJobOpen t))
judged t v Abort = cond v.is_open allowed (refused (NoJobOpen t))

-- a log of 64 records has room only for an address that it has
abbrev pub room_in : List Undo → ℕ → Verdict
room_in us a = cond (nat_lt (length us) 64 || logged_in us a) allowed (refused (UndoLogFull a))

abbrev pub judge_of : List View → ℕ → Request → Verdict
judge_of es t asked = cond (nat_lt t 16) (judged t (entry_at es t) asked) (refused (ThreadOutOfRange t))

abbrev pub room_of : List View → ℕ → ℕ → Verdict
room_of es t a = cond (nat_lt t 16) (room_in (entry_at es t).undo a) (refused (ThreadOutOfRange t))
