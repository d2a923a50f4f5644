-- A field is read as a number exactly where it is the decimal writing of one.
use Rattle.std.proofs.Common.{◌≡◌, ℕ, ◌+◌, ◌-◌, ◌*◌, ◌^◌, ◌<◌, ◌≤◌, true, false, cond, ◌&&◌, ltb, List, [], ◌∷◌, length, get_or, Some, None, decimal, Option, sym, ap, ◌∙◌, subst, ⊎_elim, arith, rules}
use Rattle.std.specs.Char.{is_ascii_digit}
use Rattle.std.specs.Str.{all_ascii_digits}
use Rattle.std.proofs.lemmas.Str.Parse.{IsNumeralModel, numerals_by_fold, tells_all_ascii_digits}
use Rattle.std.proofs.lemmas.Fmt.{decimal-digits_value, digits_decimal, digits_value-decimal, decimal_nonempty, first_decimal, decimal_digit}
use Rattle.std.proofs.lemmas.Bool.{cases_Bool, and_from, and_left, lt-ltb, cond-true, cond-false, cases_lt}
use Rattle.std.proofs.lemmas.Bool.Decides.{nat_tests}
use Rattle.script.proofs.Trying.{tried}
use Rattle.script.specs.Numerals.{read_on, opened, pushed, number_in, Reads}

own : IsNumeralModel (λ ds. all_ascii_digits ds ≡ true) (read_on 0)
unfolding read_on
own = numerals_by_fold _ tells_all_ascii_digits read_on (search rules)

-- more digits make no smaller number
pub read_on-ge : (n : ℕ) (ds : List ℕ) → n ≤ read_on n ds
unfolding read_on
read_on-ge n [] = omega arith
read_on-ge n (c ∷ cs) = omega (arith, read_on-ge (n * 10 + (c - 48)) cs)

not_number : (f : List ℕ) → (opened f && all_ascii_digits f && ltb (read_on 0 f) (2 ^ 64)) ≡ false → number_in f ≡ None
unfolding number_in
not_number f h = cond-false _ _ _ h

pub none_unopened : (f : List ℕ) → opened f ≡ false → number_in f ≡ None
none_unopened f h = not_number f (and_left _ _ (and_left _ _ h))

some_number : (f : List ℕ) → opened f ≡ true → all_ascii_digits f ≡ true → read_on 0 f < 2 ^ 64 → number_in f ≡ Some (read_on 0 f)
unfolding number_in
some_number f o d s = cond-true _ _ _ (and_from _ _ (and_from _ _ o d) (lt-ltb _ _ s))

opened-decimal : (n : ℕ) → n < 2 ^ 64 → opened (decimal n) ≡ true
opened-decimal n s =
    ⊎_elim (λ p. grind (arith, nat_tests, decimal_nonempty n s, first_decimal n p s))
    (λ z. let one : length (decimal n) ≡ 1 = ap length (decimal_digit n (omega arith)) in grind (arith, nat_tests)) (cases_lt 0 n)

-- a number is read back from its decimal writing
pub number-decimal : (n : ℕ) → n < 2 ^ 64 → number_in (decimal n) ≡ Some n
number-decimal n s =
    let v = digits_value-decimal own n s in
    some_number (decimal n) (opened-decimal n s) (digits_decimal own n s) (omega arith) ∙ ap Some v

headed : (f : List ℕ) → opened f ≡ true → get_or f 0 0 ≡ 48 → length f ≡ 1
headed f o z = grind (arith, nat_tests)

reads_yes : (f : List ℕ) → (opened f && all_ascii_digits f && ltb (read_on 0 f) (2 ^ 64)) ≡ true → Reads f (number_in f)
unfolding number_in
reads_yes f e =
    let p : (all_ascii_digits f ≡ true) × (opened f ≡ true) × (0 < length f) × (read_on 0 f < 2 ^ 64) = grind (arith, nat_tests) in
    subst (Reads f) (sym (cond-true _ _ _ e)) (p.3, sym (decimal-digits_value own f p.0 p.2 (headed f p.1) p.3))

reads_no : (f : List ℕ) → (opened f && all_ascii_digits f && ltb (read_on 0 f) (2 ^ 64)) ≡ false → Reads f (number_in f)
reads_no f e =
    let none = not_number f e in
    subst (Reads f) (sym none)
    (λ n s w. cc (none, ap number_in w, number-decimal n s))

-- the law of `number_in`
pub reads_number : (f : List ℕ) (r : Option ℕ) → r ≡ number_in f → Reads f r
reads_number f r is = subst (Reads f) (sym is) (⊎_elim (reads_yes f) (reads_no f) (cases_Bool (opened f && all_ascii_digits f && ltb (read_on 0 f) (2 ^ 64))))

-- digits that are pushed one after the other make their number, or none where one is no digit or the number is too large
tried_digits : (n : ℕ) (ds : List ℕ) → n < 2 ^ 64 → tried pushed n ds ≡ cond (all_ascii_digits ds && ltb (read_on n ds) (2 ^ 64)) (Some (read_on n ds)) None
unfolding read_on
tried_digits n [] s = sym (cond-true _ _ _ (lt-ltb _ _ s))
tried_digits n (c ∷ cs) s =
    let m = n * 10 + (c - 48) in
    ⊎_elim (λ yes. let small : m < 2 ^ 64 = grind (arith, nat_tests, yes) in grind (arith, nat_tests, yes, tried_digits m cs small))
    (λ no. grind (arith, nat_tests, no, read_on-ge m cs)) (cases_Bool (is_ascii_digit c && ltb m (2 ^ 64)))

pub number-tried : (f : List ℕ) → opened f ≡ true → tried pushed 0 f ≡ number_in f
unfolding number_in
number-tried f o = tried_digits 0 f (omega arith) ∙ grind (arith, nat_tests, o)
