use Rattle.std.proofs.Common.{ℕ, ◌^◌, decimal, Option, Some, None, List}
use Rattle.std.specs.Prelude.{IfSome, IfNone}
use Rattle.hwp_script_words.specs.Numbers.{IsNumber}
use Rattle.hwp_report_words.specs.Reads.{IsReadAs, Below}
use Rattle.hwp_report_words.proofs.numbers.read_number.Goals as goal

-- a word that is a number of a script is read as that of which it is the print
number_read : (word : List ℕ) (read : Option ℕ) → IfSome read (IsNumber word) → IfNone read ((n : ℕ) → IsNumber word n → ⊥) → IsReadAs (Below (2 ^ 64)) decimal word read
number_read word None found none = λ n small same. none n (record { fits = small; digits = same })
number_read word (Some n) found none = (found.fits, found.digits)

pub returns : goal.returns
returns c = number_read c.args.word.now c.read_number.result c.read_number.ensures.some c.read_number.ensures.none
