-- The files that tell each plausible error, each by computation.
-- Assumes nothing.
use mathlib.Core.Path.{refl}
use Rattle.terms.specs.Choice.{when}
use Rattle.numbers.specs.Numbers.{above, number, number_in, written}
use Rattle.trace.specs.Cases.{Cases}
use Rattle.trace.specs.Traces.{up_to, numbers_in, file_of, spelt}

pub cases : Cases
unfolding when above number number_in written up_to numbers_in file_of spelt
cases = record {
  empty = refl;
  zero_first = refl;
  long_one = refl;
  no_pulses = refl;
  not_shortest = refl;
  largest = refl;
  too_large = refl;
  cut_short = refl;
  no_low = refl;
  written_300 = refl;
}
