-- The lines of one keyword: their words, and what a misfit says of them.
use Rattle.std.proofs.Common.{ℕ, ◌≡◌, ◌<◌, ◌^◌, true, List, [], ◌∷◌, length, get_or, decimal, refl, ap, arith}
use Rattle.std.specs.Prelude.{All}
use Rattle.hwp_script_words.specs.Numbers.{IsNumberWord}
use Rattle.hwp_script_lines.specs.Grammar.{keyword, Fits, AreRestWords, IsSentence, IsCommand, HasShape, HaveNumbers, trans_keyword, cow_keyword, command_keyword}
use Rattle.hwp_script_lines.specs.Misfits.{AreMisfit, AreNumbers, IsCommandMisfit, IsSentenceMisfit, has_one_number, form_with}
use Rattle.hwp_script_words.specs.declared.Command.{Command}
use Rattle.hwp_script_lines.specs.declared.script_line.ScriptLine.{ScriptLine}
use Rattle.hwp_script_lines.specs.declared.script_line.ScriptLine.TheVariants as forms
use Rattle.hwp_script_lines.specs.declared.keywords.Keyword.{Keyword}
use Rattle.hwp_script_lines.specs.declared.keywords.Keyword.TheVariants as keywords
use Rattle.hwp_script_lines.specs.declared.keywords.CommandWord.{CommandWord}
use Rattle.hwp_script_lines.specs.declared.keywords.CommandWord.TheVariants as words
use Rattle.hwp_script_lines.specs.declared.numbers.Misfit.{Misfit}
use Rattle.hwp_script_lines.specs.declared.numbers.Misfit.TheVariants as misfits
use Rattle.hwp_script_lines.proofs.NumberLaws.{words_are}

-- what holds of a first word that has just one number
record IsOne (k : Keyword) (ws : List (List ℕ)) : Type 0 where
  shape : length ws ≡ 1 → HasShape k ws
  long : HasShape k ws → length ws ≡ 1
  numbers : All IsNumberWord ws → HaveNumbers k ws
  all : HaveNumbers k ws → All IsNumberWord ws
  kind : (n : ℕ) → keyword (form_with k n) ≡ k
  fits : (n : ℕ) → n < 2 ^ 64 → Fits (form_with k n)
  same : (n : ℕ) → ws ≡ decimal n ∷ [] → AreRestWords ws (form_with k n)

is_one : (k : Keyword) → has_one_number k ≡ true → (ws : List (List ℕ)) → IsOne k ws
is_one keywords.Cpus h ws = record { shape = λ h. h; long = λ h. h; numbers = λ h. h; all = λ h. h; kind = λ n. refl; fits = λ n l. l; same = λ n e. e }
is_one keywords.Frames h ws = record { shape = λ h. h; long = λ h. h; numbers = λ h. h; all = λ h. h; kind = λ n. refl; fits = λ n l. l; same = λ n e. e }
is_one keywords.Kernel h ws = record { shape = λ h. h; long = λ h. h; numbers = λ h. h; all = λ h. h; kind = λ n. refl; fits = λ n l. l; same = λ n e. e }
is_one keywords.Recovery h ws = record { shape = λ h. h; long = λ h. h; numbers = λ h. h; all = λ h. h; kind = λ n. refl; fits = λ n l. l; same = λ n e. e }
is_one keywords.Early h ws = record { shape = λ h. h; long = λ h. h; numbers = λ h. h; all = λ h. h; kind = λ n. refl; fits = λ n l. l; same = λ n e. e }
is_one keywords.File h ws = record { shape = λ h. h; long = λ h. h; numbers = λ h. h; all = λ h. h; kind = λ n. refl; fits = λ n l. l; same = λ n e. e }
is_one keywords.Proc h ws = record { shape = λ h. h; long = λ h. h; numbers = λ h. h; all = λ h. h; kind = λ n. refl; fits = λ n l. l; same = λ n e. e }
is_one keywords.Guest h ws = record { shape = λ h. h; long = λ h. h; numbers = λ h. h; all = λ h. h; kind = λ n. refl; fits = λ n l. l; same = λ n e. e }
is_one keywords.Cpu h ws = record { shape = λ h. h; long = λ h. h; numbers = λ h. h; all = λ h. h; kind = λ n. refl; fits = λ n l. l; same = λ n e. e }
is_one keywords.Hwp h ws = absurd (cc h)
is_one keywords.Thread h ws = absurd (cc h)
is_one keywords.Page h ws = absurd (cc h)
is_one keywords.Trans h ws = absurd (cc h)
is_one keywords.Cow h ws = absurd (cc h)
is_one (keywords.Command w) h ws = absurd (cc h)
is_one keywords.Schedule h ws = absurd (cc h)
is_one keywords.End h ws = absurd (cc h)

pub numbered_sentence : (k : Keyword) → has_one_number k ≡ true → (ws : List (List ℕ)) (n : ℕ) → n < 2 ^ 64 → ws ≡ decimal n ∷ [] → IsSentence k ws (form_with k n)
numbered_sentence k one ws n l e = let p = is_one k one ws in record { kind = p.kind n; fits = p.fits n l; same = p.same n e }

pub numbered_misfit : (k : Keyword) → has_one_number k ≡ true → (ws : List (List ℕ)) (e : Misfit) → AreMisfit IsNumberWord 1 ws e → IsSentenceMisfit k ws e
numbered_misfit k one ws misfits.Unknown h = λ s. h ((is_one k one ws).long s)
numbered_misfit k one ws misfits.BadNumber h = let p = is_one k one ws in (p.shape h.0, λ n. h.1 (p.all n))
numbered_misfit k one ws misfits.OverLimit h = absurd h

word_of : Keyword → CommandWord
word_of (keywords.Command w) = w
word_of k = words.Load

same_word : {v w : CommandWord} → keywords.Command v ≡ keywords.Command w → v ≡ w
unfolding word_of
same_word e = ap word_of e

-- a command that is over its limit is no line
no_line : (w : CommandWord) (ws : List (List ℕ)) → ((o : Command) → IsCommand w ws o → ⊥) → (f : ScriptLine) → IsSentence (keywords.Command w) ws f → ⊥
no_line w ws none (forms.Command o) h = none o (record { kind = same_word h.kind; fits = h.fits; same = h.same })
no_line w ws none (forms.Schedule ts) h = absurd (cc h.kind)
no_line w ws none (forms.Header v) h = absurd (cc h.kind)
no_line w ws none (forms.Trans m n p) h = absurd (cc h.kind)
no_line w ws none (forms.Cow m n) h = absurd (cc h.kind)
no_line w ws none (forms.Thread m n p b) h = absurd (cc h.kind)
no_line w ws none (forms.Page q b l) h = absurd (cc h.kind)
no_line w ws none forms.End h = absurd (cc h.kind)
no_line w ws none (forms.Cpus n) h = absurd (cc h.kind)
no_line w ws none (forms.Frames n) h = absurd (cc h.kind)
no_line w ws none (forms.Kernel n) h = absurd (cc h.kind)
no_line w ws none (forms.Recovery n) h = absurd (cc h.kind)
no_line w ws none (forms.Early n) h = absurd (cc h.kind)
no_line w ws none (forms.File n) h = absurd (cc h.kind)
no_line w ws none (forms.Proc n) h = absurd (cc h.kind)
no_line w ws none (forms.Guest n) h = absurd (cc h.kind)
no_line w ws none (forms.Cpu n) h = absurd (cc h.kind)

pub command_misfit : (w : CommandWord) (ws : List (List ℕ)) (e : Misfit) → IsCommandMisfit w ws e → IsSentenceMisfit (command_keyword w) ws e
command_misfit w ws misfits.Unknown h = h
command_misfit w ws misfits.BadNumber h = h
command_misfit w ws misfits.OverLimit h = record { shaped = h.shaped; numbers = h.numbers; none = no_line w ws h.none }

pub trans_sentence : (ws : List (List ℕ)) (ns : List ℕ) → AreNumbers 3 ws ns → IsSentence trans_keyword ws (forms.Trans (get_or ns 0 0) (get_or ns 1 0) (get_or ns 2 0))
trans_sentence ws ns h = record {
  kind = refl;
  fits = ((h.each 0 (omega arith)).fits, (h.each 1 (omega arith)).fits, (h.each 2 (omega arith)).fits);
  same = words_are 3 ws ns h;
}

pub cow_sentence : (ws : List (List ℕ)) (ns : List ℕ) → AreNumbers 2 ws ns → IsSentence cow_keyword ws (forms.Cow (get_or ns 0 0) (get_or ns 1 0))
cow_sentence ws ns h = record { kind = refl; fits = ((h.each 0 (omega arith)).fits, (h.each 1 (omega arith)).fits); same = words_are 2 ws ns h }
