-- What a book promises of each call that has no marks and tells exactly what is held: answer and holdings by the rules, and the exact figure of a release.
use Rattle.std.specs.Prelude.{◌≡◌, ℕ, Ok, Result}
use Rattle.fault.specs.declared.Fault.{Fault}
use Rattle.book.specs.Holdings.{Holdings, blocks_held}
use Rattle.book.specs.Moves.{Move, loaded, stored, released, seated, dropped}
use Rattle.book.specs.Rules.{on_thread, load_take, after_load, store_take, after_store, after_release, seat_answer, drop_answer}

-- one for each block held
abbrev pub release_answer : Holdings → ℕ → Result ℕ Fault
release_answer H t = on_thread t (Ok (blocks_held H t))

abbrev pub Exactly : Holdings → Move → Holdings → Type 0
Exactly H (loaded t b r) H' = (r ≡ load_take H t b) × (H' ≡ after_load H t b)
Exactly H (stored t b r) H' = (r ≡ store_take H t b) × (H' ≡ after_store H t b)
Exactly H (released t r) H' = (r ≡ release_answer H t) × (H' ≡ after_release H t)
Exactly H (seated t board r) H' = (r ≡ seat_answer t board) × (H' ≡ H)
Exactly H (dropped board b r) H' = (r ≡ drop_answer board b) × (H' ≡ H)
