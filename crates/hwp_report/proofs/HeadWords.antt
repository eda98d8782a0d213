-- The first words of lines, each in its place among all.
use Rattle.std.proofs.Common.{List, [], ◌∷◌, refl, arith}
use Rattle.hwp_report_words.specs.declared.Verb.TheVariants as verbs
use Rattle.hwp_report_words.proofs.NamedValues.{IsListed}
use Rattle.hwp_report.specs.declared.heads.Head.{Head}
use Rattle.hwp_report.specs.declared.heads.Head.TheVariants as heads

abbrev pub all_heads : List Head
all_heads = heads.Header ∷ heads.Stop ∷ heads.Count ∷ heads.File ∷ heads.Frame ∷ heads.Poisoned ∷ heads.Unpoisoned ∷ heads.Page ∷ heads.Seen ∷ heads.Signal ∷ heads.Cpu ∷ heads.End ∷ (heads.Entry verbs.Load) ∷ (heads.Entry verbs.Store) ∷ (heads.Entry verbs.In) ∷ (heads.Entry verbs.Map) ∷ (heads.Entry verbs.Free) ∷ (heads.Entry verbs.Drop) ∷ (heads.Entry verbs.Sync) ∷ (heads.Entry verbs.Out) ∷ (heads.Entry verbs.Mce) ∷ (heads.Entry verbs.Fail) ∷ (heads.Entry verbs.Soft) ∷ []

pub head_listed : (x : Head) → IsListed all_heads heads.Header x
head_listed heads.Header = record { place = 0; fits = omega arith; is = refl }
head_listed heads.Stop = record { place = 1; fits = omega arith; is = refl }
head_listed heads.Count = record { place = 2; fits = omega arith; is = refl }
head_listed heads.File = record { place = 3; fits = omega arith; is = refl }
head_listed heads.Frame = record { place = 4; fits = omega arith; is = refl }
head_listed heads.Poisoned = record { place = 5; fits = omega arith; is = refl }
head_listed heads.Unpoisoned = record { place = 6; fits = omega arith; is = refl }
head_listed heads.Page = record { place = 7; fits = omega arith; is = refl }
head_listed heads.Seen = record { place = 8; fits = omega arith; is = refl }
head_listed heads.Signal = record { place = 9; fits = omega arith; is = refl }
head_listed heads.Cpu = record { place = 10; fits = omega arith; is = refl }
head_listed heads.End = record { place = 11; fits = omega arith; is = refl }
head_listed (heads.Entry verbs.Load) = record { place = 12; fits = omega arith; is = refl }
head_listed (heads.Entry verbs.Store) = record { place = 13; fits = omega arith; is = refl }
head_listed (heads.Entry verbs.In) = record { place = 14; fits = omega arith; is = refl }
head_listed (heads.Entry verbs.Map) = record { place = 15; fits = omega arith; is = refl }
head_listed (heads.Entry verbs.Free) = record { place = 16; fits = omega arith; is = refl }
head_listed (heads.Entry verbs.Drop) = record { place = 17; fits = omega arith; is = refl }
head_listed (heads.Entry verbs.Sync) = record { place = 18; fits = omega arith; is = refl }
head_listed (heads.Entry verbs.Out) = record { place = 19; fits = omega arith; is = refl }
head_listed (heads.Entry verbs.Mce) = record { place = 20; fits = omega arith; is = refl }
head_listed (heads.Entry verbs.Fail) = record { place = 21; fits = omega arith; is = refl }
head_listed (heads.Entry verbs.Soft) = record { place = 22; fits = omega arith; is = refl }
