-- A run that has come as far as one line.
use Rattle.std.proofs.Common.{◌≡◌, ℕ, ◌+◌, ◌-◌, ◌<◌, ◌≤◌, Bool, true, false, cond, ◌==◌, List, [], ◌∷◌, ◌++◌, length, take, drop, Some, None, Option, Result, sym, refl, ap, ◌∙◌, subst, subst₂, append_assoc, append-nil, arith}
use Rattle.std.specs.List.{AllByRecursion, onto_first}
use Rattle.std.proofs.ByRecursion.{All-push}
use Rattle.std.proofs.lemmas.List.{length-append, take_at, drop_at, drop-drop, nil_from_length}
use Rattle.fault.specs.declared.Fault.{Fault}
use Rattle.book.specs.Holdings.{Holdings}
use Rattle.book.specs.Moves.{Move}
use Rattle.script.specs.Commands.{parse_of}
use Rattle.script.specs.Pieces.{lines_of, cut}
use Rattle.script.specs.Rows.{row_of}
use Rattle.store.specs.States.{State}
use Rattle.store.specs.Histories.{History}
use Rattle.store.specs.Reached.{Reached}
use Rattle.store.specs.Promises.{Travelled}
use Rattle.store.specs.declared.Answer.{Answer}
use Rattle.store.specs.declared.Store.{Store}
use Rattle.console.specs.Runs.{Entry, Runs, finished, skipped, stopped, ran, rows_of, TextRight, turn_of, turns_from, CarriesAll, TravelsAll, full_fault, Reported}

length-lines_of : (text : List ℕ) → length (lines_of text) ≤ length text
unfolding cut
length-lines_of [] = omega arith
length-lines_of (c ∷ cs) = go (c == 10) (lines_of cs) (length-lines_of cs)
  where
    go : (q : Bool) (ps : List (List ℕ)) → length ps ≤ length cs → length (cond q ([] ∷ ps) (onto_first c ps)) ≤ length (c ∷ cs)
    go true ps le = omega arith
    go false [] le = omega arith
    go false (p ∷ ps) le = omega arith

rows_push : (es : List Entry) (e : Entry) → rows_of (es ++ e ∷ []) ≡ rows_of es ++ row_of e.number e.outcome
unfolding rows_of
rows_push [] e = append-nil _
rows_push (x ∷ es) e = ap (λ l. row_of x.number x.outcome ++ l) (rows_push es e) ∙ sym (append_assoc (row_of x.number x.outcome) (rows_of es) _)

turns_push : (h : History) (es : List Entry) (e : Entry) → turns_from h (es ++ e ∷ []) ≡ turn_of (parse_of e.line) e.outcome (turns_from h es)
unfolding turns_from
turns_push h [] e = refl
turns_push h (x ∷ es) e = turns_push (turn_of (parse_of x.line) x.outcome h) es e

module _ {M B : Type 0} (beyond : M → List (List ℕ)) (holding : B → Holdings) (R : B → Move → B → Type 0) (s₀ : State) (store₀ : Store M B) (script report₀ : List ℕ) where
  -- the lines `left` are still to come, the first of them with this number
  pub record Sofar (left : List (List ℕ)) (number fill : ℕ) (report : List ℕ) (s : State) (store : Store M B) : Type 0 where
    pub entries : List Entry
    pub ahead : (es : List Entry) (stop : Option ℕ) → Runs number left (length report₀ - fill) es stop → Runs 1 (lines_of script) (length report₀) (entries ++ es) stop
    pub counted : number + length left ≡ 1 + length (lines_of script)
    pub filled : fill ≡ length (rows_of entries)
    pub fits : fill ≤ length report₀
    pub written : report ≡ rows_of entries ++ drop fill report₀
    pub text : AllByRecursion TextRight entries
    pub carried : CarriesAll s₀ entries s
    pub travelled : TravelsAll holding R s₀ entries store₀.book store.book
    pub untouched : beyond store.memory ≡ beyond store₀.memory

  pub sofar_none : (left : List (List ℕ)) (number : ℕ) → left ≡ lines_of script → number ≡ 1 → Sofar left number 0 report₀ s₀ store₀
  unfolding rows_of turns_from
  sofar_none left number left_is number_is =
      record {
        entries = [];
        ahead =
            λ es stop runs.
            let none : length report₀ - 0 ≡ length report₀ = omega arith in
            subst (λ k. Runs 1 (lines_of script) k es stop) none (subst₂ (λ n ls. Runs n ls (length report₀ - 0) es stop) number_is left_is runs);
        counted = omega (arith, number_is, ap length left_is);
        filled = refl;
        fits = omega arith;
        written = refl;
        text = tt;
        carried = λ m h reached. reached;
        travelled = λ m h first reached far. far;
        untouched = refl;
      }

  -- the next line has the number n, and after it come the lines `after`, with the numbers from `next` on
  module _ (left : List (List ℕ)) (number fill : ℕ) (report : List ℕ) (s : State) (store : Store M B) (far : Sofar left number fill report s store) (n next : ℕ) (n_is : n ≡ number) (next_is : next ≡ n + 1) (line : List ℕ) (after : List (List ℕ)) (left_is : left ≡ line ∷ after) where
    -- a run from this line on completes the run of the script
    ahead_here : (es : List Entry) (stop : Option ℕ) → Runs n (line ∷ after) (length report₀ - fill) es stop → Runs 1 (lines_of script) (length report₀) (far.entries ++ es) stop
    ahead_here es stop runs = far.ahead es stop (subst₂ (λ k ls. Runs k ls (length report₀ - fill) es stop) n_is (sym left_is) runs)

    counted_here : next + length after ≡ 1 + length (lines_of script)
    counted_here = omega (arith, n_is, next_is, ap length left_is, far.counted)

    pub sofar_skip : length line ≡ 0 → Sofar after next fill report s store
    sofar_skip none =
        record {
          entries = far.entries;
          ahead =
              λ es stop runs.
              ahead_here es stop
              (subst (λ l. Runs n (l ∷ after) (length report₀ - fill) es stop) (sym (nil_from_length line none)) (skipped n (length report₀ - fill) after es stop (subst (λ k. Runs k after (length report₀ - fill) es stop) next_is runs)));
          counted = counted_here;
          filled = far.filled;
          fits = far.fits;
          written = far.written;
          text = far.text;
          carried = far.carried;
          travelled = far.travelled;
          untouched = far.untouched;
        }

    module _ (some : 0 < length line) where
      pub sofar_stop : length report₀ - fill < 64 → (why : Fault) → why ≡ full_fault n → Reported beyond holding R s₀ store₀ script report₀ record { fill = fill; stopped = Some why } report s store
      sofar_stop little why why_is =
          record {
            entries = far.entries;
            stop = Some n;
            lines =
                subst (λ es. Runs 1 (lines_of script) (length report₀) es (Some n)) (append-nil far.entries)
                (ahead_here [] (Some n) (stopped n (length report₀ - fill) line after some little));
            stopped = ap Some why_is;
            fill = far.filled;
            rows = far.written;
            text = far.text;
            carried = far.carried;
            travelled = far.travelled;
            untouched = far.untouched;
          }

      module _ (enough : 64 ≤ length report₀ - fill) (outcome : Result Answer Fault) (s' : State) (store' : Store M B) (count : ℕ) (report' : List ℕ) where
        made : Entry
        made = record { number = n; line = line; outcome = outcome }

        pub sofar_row : count ≡ length (row_of n outcome) → count ≤ 64 → report' ≡ take fill report ++ (row_of n outcome ++ drop (fill + count) report) → TextRight (record { number = 0; line = line; outcome = outcome }) → CarriesAll s (record { number = 0; line = line; outcome = outcome } ∷ []) s' → TravelsAll holding R s (record { number = 0; line = line; outcome = outcome } ∷ []) store.book store'.book → beyond store'.memory ≡ beyond store.memory → Sofar after next (fill + count) report' s' store'
        unfolding made turns_from
        sofar_row count_is short report_is right carries travels kept =
            let es₀ = far.entries in
            let row = row_of n outcome in
            let front : take fill report ≡ rows_of es₀ = ap (take fill) far.written ∙ take_at (rows_of es₀) _ fill (sym far.filled) in
            let back : drop (fill + count) report ≡ drop (fill + count) report₀ =
            sym (drop-drop count fill report) ∙ ap (drop count) (ap (drop fill) far.written ∙ drop_at (rows_of es₀) _ fill (sym far.filled)) ∙ drop-drop count fill report₀ in
            let less : length report₀ - fill - length row ≡ length report₀ - (fill + count) = omega (arith, count_is) in
            record {
              entries = es₀ ++ made ∷ [];
              ahead =
                  λ es stop runs.
                  subst (λ l. Runs 1 (lines_of script) (length report₀) l stop) (sym (append_assoc es₀ (made ∷ []) es))
                  (ahead_here (made ∷ es) stop
                  (ran n (length report₀ - fill) line after outcome es stop some enough (subst₂ (λ k free. Runs k after free es stop) next_is (sym less) runs)));
              counted = counted_here;
              filled = ap (λ k. k + count) far.filled ∙ ap (λ k. length (rows_of es₀) + k) count_is ∙ sym (ap length (rows_push es₀ made) ∙ length-append (rows_of es₀) row);
              fits = omega (arith, far.fits);
              written = report_is ∙ (λ i. front i ++ (row ++ back i)) ∙ sym (ap (λ l. l ++ drop (fill + count) report₀) (rows_push es₀ made) ∙ append_assoc (rows_of es₀) row _);
              text = All-push TextRight es₀ made far.text right;
              carried = λ m h reached. subst (λ k. Reached m k s') (sym (turns_push h es₀ made)) (carries m (turns_from h es₀) (far.carried m h reached));
              travelled =
                  λ m h first reached trip.
                  subst (λ k. Travelled holding R first k store'.book) (sym (turns_push h es₀ made)) (travels m (turns_from h es₀) first (far.carried m h reached) (far.travelled m h first reached trip));
              untouched = kept ∙ far.untouched;
            }

  -- no line is numbered beyond the bytes of the script
  pub numbered : (left : List (List ℕ)) (number fill : ℕ) (report : List ℕ) (s : State) (store : Store M B) → Sofar left number fill report s store → number ≤ 1 + length script
  numbered left number fill report s store far = omega (arith, far.counted, length-lines_of script)

  pub sofar_all : (left : List (List ℕ)) (number fill : ℕ) (report : List ℕ) (s : State) (store : Store M B) → Sofar left number fill report s store → left ≡ [] → Reported beyond holding R s₀ store₀ script report₀ record { fill = fill; stopped = None } report s store
  sofar_all left number fill report s store far none =
      record {
        entries = far.entries;
        stop = None;
        lines = subst (λ es. Runs 1 (lines_of script) (length report₀) es None) (append-nil far.entries) (far.ahead [] None (subst (λ ls. Runs number ls (length report₀ - fill) [] None) (sym none) (finished number (length report₀ - fill))));
        stopped = refl;
        fill = far.filled;
        rows = far.written;
        text = far.text;
        carried = far.carried;
        travelled = far.travelled;
        untouched = far.untouched;
      }
