-- The words of answers, each in its place among all of its shape.
use Rattle.std.proofs.Common.{List, [], ◌∷◌, refl, arith}
use Rattle.hwp_report_words.proofs.NamedValues.{IsListed}
use Rattle.hwp_report_words.specs.declared.replies.Counted.{Counted}
use Rattle.hwp_report_words.specs.declared.replies.Counted.TheVariants as counted
use Rattle.hwp_report_words.specs.declared.replies.Placed.{Placed}
use Rattle.hwp_report_words.specs.declared.replies.Placed.TheVariants as placed
use Rattle.hwp_report_words.specs.declared.replies.Short.{Short}
use Rattle.hwp_report_words.specs.declared.replies.Short.TheVariants as short
use Rattle.hwp_report_words.specs.declared.replies.Valued.{Valued}
use Rattle.hwp_report_words.specs.declared.replies.Valued.TheVariants as valued

abbrev pub all_short : List Short
all_short = short.NoFrame ∷ short.Stopped ∷ short.Done ∷ short.Einval ∷ short.Recovered ∷ short.Delayed ∷ short.Ignored ∷ short.Already ∷ short.TakenFree ∷ short.Kernel ∷ short.NotPoisoned ∷ short.HardwareSeen ∷ short.GuestStopped ∷ short.GuestBad ∷ []

pub short_listed : (x : Short) → IsListed all_short short.NoFrame x
short_listed short.NoFrame = record { place = 0; fits = omega arith; is = refl }
short_listed short.Stopped = record { place = 1; fits = omega arith; is = refl }
short_listed short.Done = record { place = 2; fits = omega arith; is = refl }
short_listed short.Einval = record { place = 3; fits = omega arith; is = refl }
short_listed short.Recovered = record { place = 4; fits = omega arith; is = refl }
short_listed short.Delayed = record { place = 5; fits = omega arith; is = refl }
short_listed short.Ignored = record { place = 6; fits = omega arith; is = refl }
short_listed short.Already = record { place = 7; fits = omega arith; is = refl }
short_listed short.TakenFree = record { place = 8; fits = omega arith; is = refl }
short_listed short.Kernel = record { place = 9; fits = omega arith; is = refl }
short_listed short.NotPoisoned = record { place = 10; fits = omega arith; is = refl }
short_listed short.HardwareSeen = record { place = 11; fits = omega arith; is = refl }
short_listed short.GuestStopped = record { place = 12; fits = omega arith; is = refl }
short_listed short.GuestBad = record { place = 13; fits = omega arith; is = refl }

abbrev pub all_counted : List Counted
all_counted = counted.Gone ∷ counted.Eio ∷ counted.Opened ∷ counted.Is ∷ counted.HasBad ∷ counted.InUse ∷ counted.Scrubbed ∷ counted.Raised ∷ []

pub counted_listed : (x : Counted) → IsListed all_counted counted.Gone x
counted_listed counted.Gone = record { place = 0; fits = omega arith; is = refl }
counted_listed counted.Eio = record { place = 1; fits = omega arith; is = refl }
counted_listed counted.Opened = record { place = 2; fits = omega arith; is = refl }
counted_listed counted.Is = record { place = 3; fits = omega arith; is = refl }
counted_listed counted.HasBad = record { place = 4; fits = omega arith; is = refl }
counted_listed counted.InUse = record { place = 5; fits = omega arith; is = refl }
counted_listed counted.Scrubbed = record { place = 6; fits = omega arith; is = refl }
counted_listed counted.Raised = record { place = 7; fits = omega arith; is = refl }

abbrev pub all_placed : List Placed
all_placed = placed.Stored ∷ placed.Sigbus ∷ placed.Done ∷ placed.NotResident ∷ placed.NotMapped ∷ placed.Dirty ∷ placed.Mapped ∷ placed.Locked ∷ []

pub placed_listed : (x : Placed) → IsListed all_placed placed.Stored x
placed_listed placed.Stored = record { place = 0; fits = omega arith; is = refl }
placed_listed placed.Sigbus = record { place = 1; fits = omega arith; is = refl }
placed_listed placed.Done = record { place = 2; fits = omega arith; is = refl }
placed_listed placed.NotResident = record { place = 3; fits = omega arith; is = refl }
placed_listed placed.NotMapped = record { place = 4; fits = omega arith; is = refl }
placed_listed placed.Dirty = record { place = 5; fits = omega arith; is = refl }
placed_listed placed.Mapped = record { place = 6; fits = omega arith; is = refl }
placed_listed placed.Locked = record { place = 7; fits = omega arith; is = refl }

abbrev pub all_valued : List Valued
all_valued = valued.Value ∷ valued.BadLines ∷ valued.Moved ∷ []

pub valued_listed : (x : Valued) → IsListed all_valued valued.Value x
valued_listed valued.Value = record { place = 0; fits = omega arith; is = refl }
valued_listed valued.BadLines = record { place = 1; fits = omega arith; is = refl }
valued_listed valued.Moved = record { place = 2; fits = omega arith; is = refl }
