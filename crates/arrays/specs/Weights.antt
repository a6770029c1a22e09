-- What a value above 0 is, as the numbers that the demands speak of. Assumes nothing: these are definitions.
use Rattle.std.specs.Prelude.{ℕ}
use Rattle.arrays.specs.declared.Weight.{Weight}
use Rattle.arrays.specs.declared.Weight.TheVariants.{Stands, Hidden, Impossible}
use Rattle.words.specs.Numbers.{DONE, HIDDEN, IMPOSSIBLE}

abbrev pub number_of_weight : Weight → ℕ
number_of_weight Stands = DONE
number_of_weight Hidden = HIDDEN
number_of_weight Impossible = IMPOSSIBLE
