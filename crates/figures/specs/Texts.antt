-- How readings and verdicts are printed.
use Rattle.std.specs.Prelude.{ℕ, List, ◌++◌, codes, if◌then◌else◌}
use Rattle.std.specs.Fmt.{decimal}
use Rattle.figures.specs.declared.Reading.{Reading}
use Rattle.figures.specs.declared.Quality.{Quality}

abbrev pub text_of_reading : Reading → List ℕ
text_of_reading r =
    codes "half hour " ++ decimal r.height.hour
    ++ codes " height " ++ decimal r.height.value
    ++ codes " mm, half hour " ++ decimal r.period.hour
    ++ codes " period " ++ decimal r.period.value ++ codes " ms"

abbrev pub text_of_quality : Quality → List ℕ
text_of_quality q =
    codes "half hour " ++ decimal q.hour ++ (if q.good then codes " good" else codes " not good")
