-- The text of lines is read as these lines.
use Rattle.std.proofs.Common.{ℕ, ◌≡◌, ◌<◌, ◌≤◌, ◌^◌, ◌+◌, ◌*◌, ◌/◌, ◌%◌, ◌++◌, ◌==◌, not, Bool, true, false, if◌then◌else◌, inr, List, [], ◌∷◌, length, map, decimal, codes, zero, suc, refl, sym, ap, ◌∙◌, append-nil, arith, pow-suc}
use Rattle.std.specs.Prelude.{All}
use Rattle.std.specs.List.{filter}
use Rattle.std.specs.Fmt.{digits, digits_onto, digit_glyph}
use Rattle.std.proofs.lemmas.Bool.Decides.{nat_tests}
use Rattle.std.proofs.lemmas.Fmt.{digits_is_IsNumeral}
use Rattle.std.proofs.lemmas.List.Splits.{slice_split_none, slice_split_at}
use Rattle.std.proofs.lemmas.List.Elements.{All-nil, All-cons, All-append, All-weaker, All-head, All-tail}
use Rattle.hwp_script_read.specs.hwp_geom.Limits.{cpu_limit}
use Rattle.hwp_script_read.specs.hwp_geom.Words.{IsWord, IsLine, hex, pieces}
use Rattle.hwp_script_read.specs.hwp_geom.Pairs.{Pairs}
use Rattle.hwp_script_read.proofs.of_hwp_geom.Cuts.{joined, differs, none_is, pieces-line, cut-joined_line}
use Rattle.hwp_script_read.proofs.of_hwp_geom.WordsPut.{IsHigh, IsPut, ArePut, put_word}
use Rattle.hwp_script_read.specs.hwp_script_words.Kinds.{kind_text}
use Rattle.hwp_script_read.specs.hwp_script_lines.Numbers.{IsRegister, register}
use Rattle.hwp_script_read.specs.hwp_script_lines.Grammar.{rest_words, form_words, turn_text, until_text, turn_pieces, pieces_of, command_words, CommandFits, IsTurn, AreRestWords, AreCommandWords, IsForm}
use Rattle.hwp_script_read.specs.hwp_script_words.Words.{words_of}
use Rattle.hwp_script_read.specs.hwp_script_lines.Lines.{is_comment, is_skipped, numbered_from, IsNumbered, AreLinesOf}
use Rattle.hwp_script.specs.Printed.{forms_text}
use Rattle.hwp_script_read.specs.hwp_script_lines.declared.ScriptLine.{ScriptLine}
use Rattle.hwp_script_read.specs.hwp_script_lines.declared.Command.{Command}
use Rattle.hwp_script_read.specs.hwp_script_lines.declared.Go.{Go}
use Rattle.hwp_script_read.specs.hwp_script_lines.declared.Until.{Until}
use Rattle.hwp_script_read.specs.hwp_script_lines.declared.Numbered.{Numbered}
use Rattle.hwp_script_read.specs.hwp_script_lines.declared.ScriptLine.TheVariants as forms
use Rattle.hwp_script_read.specs.hwp_script_lines.declared.Command.TheVariants as commands
use Rattle.hwp_script_read.specs.hwp_script_lines.declared.Until.TheVariants as untils
use Rattle.hwp_script_read.specs.hwp_script_lines.declared.LineRead.TheVariants as reads
use Rattle.hwp_script_read.proofs.of_hwp_script_lines.CommandLaws.{low}
use Rattle.hwp_script_read.specs.Refusals.{AreForms}
use Rattle.hwp_script.proofs.WordsPut.{IsNoAt, IsWhole, put_words, no_at-decimal, no_at-kind}

-- a word of the schedule, cut at `@`
pieces_put : (c : ℕ) (u : Until) → c < 2 ^ 64 → turn_pieces (decimal c ++ until_text u) ≡ pieces_of c u
pieces_put c untils.One h =
    ap turn_pieces (append-nil (decimal c)) ∙ slice_split_none (λ b. b == 64) (decimal c) (none_is 64 (decimal c) (no_at-decimal c h))
pieces_put c untils.Command h =
    slice_split_none (λ b. b == 64) (decimal c ++ codes ".") (none_is 64 (decimal c ++ codes ".")
    (All-append IsNoAt (decimal c) (codes ".") (no_at-decimal c h) (All-cons IsNoAt 46 [] (λ e. omega (arith, e)) (All-nil IsNoAt))))
pieces_put c (untils.After k) h =
    slice_split_at (λ b. b == 64) (decimal c) 64 (kind_text k) (none_is 64 (decimal c) (no_at-decimal c h)) refl
    ∙ ap (λ t. decimal c ∷ t) (slice_split_none (λ b. b == 64) (kind_text k) (none_is 64 (kind_text k) (no_at-kind k)))

turns_put : (ts : List Go) → All (λ (t : Go). t.cpu.0 < cpu_limit) ts → Pairs IsTurn (map turn_text ts) ts
turns_put [] h = tt
turns_put (t ∷ ts) h =
    let fits = All-head (λ (t : Go). t.cpu.0 < cpu_limit) t ts h in
    (record { fits = fits; same = pieces_put t.cpu.0 t.until (low t.cpu.0 cpu_limit fits (omega arith)) }, turns_put ts (All-tail (λ (t : Go). t.cpu.0 < cpu_limit) t ts h))

-- a number below 16 ^ (j + 1) has at most j + 1 hex digits
chosen : (test : Bool) (xs ys : List ℕ) (m : ℕ) → (test ≡ true → length xs ≤ m) → (test ≡ false → length ys ≤ m) → length (if test then xs else ys) ≤ m
chosen true xs ys m h k = h refl
chosen false xs ys m h k = k refl

some_left : (n : ℕ) → (n / 16 == 0) ≡ false → 16 ≤ n
some_left n e = grind (arith, nat_tests)

next_power : (j : ℕ) → 16 ^ (suc j + 1) ≡ 16 ^ (j + 1) * 16
next_power j = let e : suc j + 1 ≡ suc (j + 1) = omega arith in rw e (pow-suc 16 (j + 1))

digits_short : (k j n : ℕ) (acc : List ℕ) → n < 16 ^ (j + 1) → length (digits_onto k 16 false n acc) ≤ j + 1 + length acc
digits_short zero j n acc l = omega arith
digits_short (suc k) zero n acc l =
    chosen (n / 16 == 0) _ _ _ (λ e. omega arith) (λ e. absurd (omega (arith, some_left n e)))
digits_short (suc k) (suc j) n acc l =
    let power : 16 ^ (suc j + 1) ≡ 16 ^ (j + 1) * 16 = next_power j in
    let small : n / 16 < 16 ^ (j + 1) = omega arith in
    chosen (n / 16 == 0) _ _ _ (λ e. omega arith) (λ e. omega (arith, digits_short k j (n / 16) (digit_glyph false (n % 16) ∷ acc) small))

hex_short : (n : ℕ) → n < 2 ^ 64 → length (hex n) ≤ 16
unfolding digits
hex_short n h = omega (arith, digits_short 64 15 n [] (omega arith))

register_put : (n : ℕ) → n < 2 ^ 64 → IsRegister (register n) n
register_put n h =
    let numeral = digits_is_IsNumeral 16 false (omega arith) (omega arith) n (omega arith) in
    inr (record { digits = hex n; same = refl; numeral = numeral.0; short = hex_short n h; value = sym numeral.1 })

command_put : (c : Command) → CommandFits c → AreCommandWords (command_words c) c
command_put (commands.Log s a m) h = record { three = refl; status = register_put s h.0; addr = register_put a h.1; misc = register_put m h.2 }
command_put c h = refl

rest_put : (f : ScriptLine) → IsWhole f → AreRestWords (rest_words f) f
rest_put (forms.Command c) h = command_put c h.fits
rest_put (forms.Schedule ts) h = turns_put ts h.turns
rest_put f h = refl

form_put : (f : ScriptLine) → IsWhole f → IsForm (form_words f) f
form_put f h = record { rest = rest_words f; same = refl; is = record { kind = refl; fits = h.fits; same = rest_put f h } }

-- the words of a line are all that stands between its spaces
no_word : (w : List ℕ) → 0 < length w → not (length w == 0) ≡ true
no_word w h = ap not (differs 0 (length w) (λ e. omega (arith, h, e)))

all_kept : (ws : List (List ℕ)) → All IsPut ws → filter (λ word. not (length word == 0)) ws ≡ ws
all_kept [] h = refl
all_kept (w ∷ ws) h =
    rw (no_word w (All-head IsPut w ws h).some) (ap (λ t. w ∷ t) (all_kept ws (All-tail IsPut w ws h)))

all_words : (ws : List (List ℕ)) → ArePut ws → All IsWord ws
all_words ws h = All-weaker IsPut IsWord (λ w k. put_word k) ws h.each

-- a line that is put begins with no `#`
no_comment-append : (w more : List ℕ) → IsPut w → is_comment (w ++ more) ≡ false
no_comment-append [] more h = absurd (omega (arith, h.some))
no_comment-append (b ∷ bs) more h = differs 35 b (λ e. omega (arith, All-head IsHigh b bs h.high, e))

no_comment : (ws : List (List ℕ)) → All IsPut ws → is_comment (joined ws) ≡ false
no_comment [] h = refl
no_comment (w ∷ []) h = ap is_comment (sym (append-nil w)) ∙ no_comment-append w [] (All-head IsPut w [] h)
no_comment (w ∷ v ∷ ws) h = no_comment-append w (32 ∷ joined (v ∷ ws)) (All-head IsPut w (v ∷ ws) h)

-- the bytes of a line, without its line feed
pub record IsPutLine (bytes : List ℕ) (ws : List (List ℕ)) : Type 0 where
  pub words : words_of bytes ≡ ws
  pub kept : is_skipped bytes ≡ false

put_line : (w : List ℕ) (ws : List (List ℕ)) → ArePut (w ∷ ws) → IsPutLine (joined (w ∷ ws)) (w ∷ ws)
put_line w ws h =
    let whole : IsLine (w ∷ ws) = record { some = λ e. cc; each = all_words (w ∷ ws) h } in
    let words : words_of (joined (w ∷ ws)) ≡ w ∷ ws =
    ap (filter (λ word. not (length word == 0))) (cut-joined_line (w ∷ ws) whole) ∙ all_kept (w ∷ ws) h.each in
    record {
      words = words;
      kept = rw (no_comment (w ∷ ws) h.each, words) (differs 0 (length (w ∷ ws)) (λ e. omega (arith, e)));
    }

-- the lines of these forms, counted from n
abbrev pub lines_at : ℕ → List ScriptLine → List Numbered
lines_at n [] = []
lines_at n (f ∷ fs) = record { line = n; read = reads.ScriptLine f } ∷ lines_at (n + 1) fs

lines_put : (n : ℕ) (fs : List ScriptLine) → All IsWhole fs → Pairs IsNumbered (numbered_from n (pieces (forms_text fs))) (lines_at n fs)
lines_put n [] h = tt
lines_put n (f ∷ fs) h =
    let whole = All-head IsWhole f fs h in
    let put = put_words f whole in
    let is_line : IsLine (form_words f) = record { some = λ e. cc; each = all_words (form_words f) put } in
    let one = put_line _ _ put in
    rw (pieces-line (form_words f) (forms_text fs) is_line, one.kept, one.words)
    (record { number = refl; read = form_put f whole }, lines_put (n + 1) fs (All-tail IsWhole f fs h))

-- a text of lines is read as these lines
pub text_read : (fs : List ScriptLine) → All IsWhole fs → AreLinesOf (forms_text fs) (lines_at 1 fs)
text_read fs h = record { each = lines_put 1 fs h }

pub forms_read : (n : ℕ) (fs : List ScriptLine) → AreForms (lines_at n fs) fs
forms_read n [] = record { same = refl }
forms_read n (f ∷ fs) = record { same = ap (λ t. reads.ScriptLine f ∷ t) (forms_read (n + 1) fs).same }
