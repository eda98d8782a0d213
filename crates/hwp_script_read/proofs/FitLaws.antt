-- Why the words of a script are of 64 bits: those of its lines are.
use Rattle.std.proofs.Common.{ℕ, ◌≡◌, ◌+◌, ◌==◌, Bool, true, false, if◌then◌else◌, List, [], ◌∷◌, map, Option, Some, None, zero, suc}
use Rattle.std.specs.Prelude.{All, option_to_list}
use Rattle.std.specs.List.{range_with_len, cons_option}
use Rattle.std.proofs.lemmas.List.Elements.{All-nil, All-cons, All-head, All-tail, All-append}
use Rattle.hwp_script_lines.specs.hwp_geom.Pairs.{Pairs}
use Rattle.hwp_script_lines.specs.hwp_geom.declared.PageKind.{PageKind}
use Rattle.hwp_script_lines.specs.Grammar.{Fits, CommandFits, IsForm}
use Rattle.hwp_script_lines.specs.Lines.{IsNumbered, AreLinesOf, numbered_lines}
use Rattle.hwp_script_lines.specs.declared.ScriptLine.{ScriptLine}
use Rattle.hwp_script_lines.specs.declared.ScriptLine.TheVariants as forms
use Rattle.hwp_script_lines.specs.declared.Backing.{Backing}
use Rattle.hwp_script_lines.specs.declared.Backing.TheVariants as backings
use Rattle.hwp_script_lines.specs.declared.LineRead.TheVariants as reads
use Rattle.hwp_script_lines.specs.declared.Numbered.{Numbered}
use Rattle.hwp_script_read.specs.Context.{page_of, kind_of, pages_in, place_after}
use Rattle.hwp_script_read.specs.Refusals.{AreForms}
use Rattle.hwp_script_read.specs.Collects.{command_at, commands_from, commands_of}
use Rattle.hwp_script_lines.specs.hwp_script_words.Valid.{HasWords, HasFill}
use Rattle.hwp_script_lines.specs.declared.Command.{Command}
use Rattle.hwp_script_lines.specs.declared.Command.TheVariants as commands

all_fit : (ws : List (ℕ × List (List ℕ))) (lines : List Numbered) (fs : List ScriptLine) → Pairs IsNumbered ws lines
    → map (λ (l : Numbered). l.read) lines ≡ map reads.ScriptLine fs → All Fits fs
all_fit ws lines [] h e = All-nil Fits
all_fit ws [] (f ∷ fs) h e = absurd (cc)
all_fit [] (l ∷ ls) (f ∷ fs) h e = absurd h
all_fit (w ∷ ws) (l ∷ ls) (f ∷ fs) h e =
    let here : l.read ≡ reads.ScriptLine f = cc in
    let form : IsForm w.1 f = rw here at h.0.read in
    All-cons Fits f fs form.is.fits (all_fit ws ls fs h.1 (cc))

-- the numbers of the lines of a text are below 2 ^ 64
pub lines_fit : {bytes : List ℕ} {lines : List Numbered} {fs : List ScriptLine} → AreLinesOf bytes lines → AreForms lines fs → All Fits fs
lines_fit {bytes} {lines} {fs} h k = all_fit (numbered_lines bytes) lines fs h.each k.same

-- the words of pages
fill_fits : (q : ℕ) (b : Backing) (locked : Bool) → Fits (forms.Page q b locked) → HasFill (kind_of b)
fill_fits q backings.Anon locked h = tt
fill_fits q (backings.File n x) locked h = h.2

page_fills : (f : ScriptLine) (qs : List PageKind) → Fits f → All HasFill qs → All HasFill (cons_option (page_of f) qs)
page_fills (forms.Page q b locked) qs h k = All-cons HasFill (kind_of b) qs (fill_fits q b locked h) k
page_fills f qs h k = k

pub all_fills : (fs : List ScriptLine) → All Fits fs → All HasFill (pages_in fs)
all_fills [] h = All-nil HasFill
all_fills (f ∷ fs) h = page_fills f (pages_in fs) (All-head Fits f fs h) (all_fills fs (All-tail Fits f fs h))

-- the words of commands
command_words_fit : (c : Command) → CommandFits c → HasWords c
command_words_fit (commands.Store t v l x) h = h.1
command_words_fit (commands.Prctl t args) h = (h.1, h.2, h.3, h.4, h.5)
command_words_fit (commands.Log s a m) h = h
command_words_fit c h = tt

chosen_words : (test : Bool) (cmd : Command) → HasWords cmd → All HasWords (option_to_list (if test then Some cmd else None))
chosen_words true cmd h = All-cons HasWords cmd [] h (All-nil HasWords)
chosen_words false cmd h = All-nil HasWords

none_words : (test : Bool) → All HasWords (option_to_list (if test then None else None))
none_words true = All-nil HasWords
none_words false = All-nil HasWords

line_words : (p : Option ℕ) (c : ℕ) (f : ScriptLine) → Fits f → All HasWords (option_to_list (command_at p c f))
line_words None c f h = All-nil HasWords
line_words (Some q) c (forms.Command x) h = chosen_words (q == c) x (command_words_fit x h)
line_words (Some q) c f h = none_words (q == c)

list_words : (p : Option ℕ) (c : ℕ) (fs : List ScriptLine) → All Fits fs → All HasWords (commands_from p c fs)
list_words p c [] h = All-nil HasWords
list_words p c (f ∷ fs) h =
    All-append HasWords (option_to_list (command_at p c f)) (commands_from (place_after p f) c fs) (line_words p c f (All-head Fits f fs h))
    (list_words (place_after p f) c fs (All-tail Fits f fs h))

pub all_words : (fs : List ScriptLine) (a n : ℕ) → All Fits fs → All (All HasWords) (map (commands_of fs) (range_with_len a n))
all_words fs a zero h = All-nil (All HasWords)
all_words fs a (suc n) h =
    All-cons (All HasWords) (commands_of fs a) (map (commands_of fs) (range_with_len (a + 1) n)) (list_words None a fs h) (all_words fs (a + 1) n h)
