-- From the pieces of a text to its numbered lines.
use Rattle.std.proofs.Common.{ℕ, ◌≡◌, ◌<◌, ◌≤◌, ◌+◌, ◌-◌, ◌^◌, ◌++◌, ◌==◌, ◌||◌, Bool, true, false, if◌then◌else◌, List, [], ◌∷◌, length, get_or, take, map, Bor, refl, sym, ap, subst, ◌∙◌, append_assoc, arith}
use Rattle.std.proofs.lemmas.List.{append-nil, length-map, length-take-le, take_all}
use Rattle.std.proofs.lemmas.List.Sums.{count_by-le-length}
use Rattle.std.proofs.lemmas.List.Splits.{length-slice_split}
use Rattle.hwp_script_words.specs.hwp_geom.Words.{pieces}
use Rattle.hwp_script_words.specs.hwp_geom.Pairs.{Pairs}
use Rattle.hwp_script_words.specs.Words.{words_of}
use Rattle.hwp_script_lines.specs.Lines.{is_comment, is_skipped, numbered_from, numbered_lines, IsRead, IsNumbered, AreLinesOf}
use Rattle.hwp_script_lines.specs.declared.script_line.LineRead.{LineRead}
use Rattle.hwp_script_lines.specs.declared.script_line.Numbered.{Numbered}
use Rattle.hwp_script_words.proofs.PairsLaws.{Pairs-push, Pairs-unique, take-now}
use Rattle.hwp_script_lines.specs.declared.script_line.LineRead.TheVariants as reads
use Rattle.hwp_script_lines.proofs.LineUnique.{form_unique}
use Rattle.hwp_script_lines.proofs.Shapes.{bad_form, bad_over, bad_once, over_once, whole}

-- a text has at most one piece more than bytes
pub length-pieces : (bytes : List ℕ) → length (pieces bytes) ≤ length bytes + 1
length-pieces bytes = omega (arith, length-slice_split (λ b. b == 10) bytes, count_by-le-length (λ b. b == 10) bytes)

-- the place of a piece is far below 2 ^ 32
pub place_fits : (bytes : List ℕ) (ps : List (Bor (List ℕ))) (i : ℕ) → map (λ p. p.now) ps ≡ pieces bytes → i < length ps → length bytes < 2 ^ 32 - 1
    → i + 1 < 2 ^ 32
place_fits bytes ps i e l short =
    let same : length ps ≡ length (pieces bytes) = rw length-map at (ap length e) in omega (arith, same, length-pieces bytes)

pub numbered_from-push : (n : ℕ) (ps : List (List ℕ)) (p : List ℕ)
    → numbered_from n (ps ++ p ∷ []) ≡ numbered_from n ps ++ (if is_skipped p then [] else (n + length ps, words_of p) ∷ [])
numbered_from-push n [] p =
    let same : n ≡ n + 0 = omega arith in
    append-nil (if is_skipped p then [] else (n, words_of p) ∷ []) ∙ ap (λ k. if is_skipped p then [] else (k, words_of p) ∷ []) same
numbered_from-push n (q ∷ qs) p =
    let rest = numbered_from-push (n + 1) qs p in
    let same : n + 1 + length qs ≡ n + length (q ∷ qs) = omega arith in
    ap (λ t. (if is_skipped q then [] else (n, words_of q) ∷ []) ++ t) (rest ∙ ap (λ k. numbered_from (n + 1) qs ++ (if is_skipped p then [] else (k, words_of p) ∷ [])) same)
    ∙ sym (append_assoc (if is_skipped q then [] else (n, words_of q) ∷ []) (numbered_from (n + 1) qs) (if is_skipped p then [] else (n + length (q ∷ qs), words_of p) ∷ []))

-- the lines that the first i pieces are
pub record AreLinesSoFar (ps : List (List ℕ)) (i : ℕ) (lines : List Numbered) : Type 0 where
  pub each : Pairs IsNumbered (numbered_from 1 (take i ps)) lines

-- a piece that is skipped
pub lines-skipped : (ps : List (Bor (List ℕ))) (i : ℕ) (d : Bor (List ℕ)) (lines : List Numbered) → AreLinesSoFar (map (λ p. p.now) ps) i lines
    → i < length ps → is_skipped (get_or ps i d).now ≡ true → AreLinesSoFar (map (λ p. p.now) ps) (i + 1) lines
lines-skipped ps i d lines h l skip =
    let e : numbered_from 1 (take (i + 1) (map (λ p. p.now) ps)) ≡ numbered_from 1 (take i (map (λ p. p.now) ps)) =
    ap (numbered_from 1) (take-now ps i d l) ∙ numbered_from-push 1 (take i (map (λ p. p.now) ps)) (get_or ps i d).now
    ∙ ap (λ s. numbered_from 1 (take i (map (λ p. p.now) ps)) ++ (if s then [] else (1 + length (take i (map (λ p. p.now) ps)), words_of (get_or ps i d).now) ∷ [])) skip
    ∙ append-nil (numbered_from 1 (take i (map (λ p. p.now) ps))) in
    record { each = rw e h.each }

-- a piece that is read
pub lines-more : (ps : List (Bor (List ℕ))) (i : ℕ) (d : Bor (List ℕ)) (lines : List Numbered) (n : ℕ) (read : LineRead) → AreLinesSoFar (map (λ p. p.now) ps) i lines
    → i < length ps → is_skipped (get_or ps i d).now ≡ false → n ≡ i + 1 → IsRead (words_of (get_or ps i d).now) read
    → AreLinesSoFar (map (λ p. p.now) ps) (i + 1) (lines ++ record { line = n; read = read } ∷ [])
lines-more ps i d lines n read h l skip at is =
    let long : length (take i (map (λ p. p.now) ps)) ≡ i = length-take-le i (map (λ p. p.now) ps) (rw length-map (omega arith)) in
    let e : numbered_from 1 (take (i + 1) (map (λ p. p.now) ps)) ≡ numbered_from 1 (take i (map (λ p. p.now) ps)) ++ (1 + length (take i (map (λ p. p.now) ps)), words_of (get_or ps i d).now) ∷ [] =
    ap (numbered_from 1) (take-now ps i d l) ∙ numbered_from-push 1 (take i (map (λ p. p.now) ps)) (get_or ps i d).now
    ∙ ap (λ s. numbered_from 1 (take i (map (λ p. p.now) ps)) ++ (if s then [] else (1 + length (take i (map (λ p. p.now) ps)), words_of (get_or ps i d).now) ∷ [])) skip in
    record { each = rw e (Pairs-push IsNumbered (numbered_from 1 (take i (map (λ p. p.now) ps))) lines _ _ h.each (record { number = omega (arith, long, at); read = is })) }

-- all pieces are read
pub lines-all : (bytes : List ℕ) (ps : List (Bor (List ℕ))) (i : ℕ) (lines : List Numbered) → map (λ p. p.now) ps ≡ pieces bytes
    → AreLinesSoFar (map (λ p. p.now) ps) i lines → length ps ≤ i → AreLinesOf bytes lines
lines-all bytes ps i lines e h l =
    record { each = subst (λ qs. Pairs IsNumbered (numbered_from 1 qs) lines) (take_all i (map (λ p. p.now) ps) (rw length-map l) ∙ e) h.each }

-- words are read as one thing
pub read_unique : (ws : List (List ℕ)) (a b : LineRead) → IsRead ws a → IsRead ws b → a ≡ b
read_unique ws (reads.ScriptLine f) (reads.ScriptLine g) h k = ap reads.ScriptLine (form_unique ws f g h k)
read_unique ws (reads.ScriptLine f) reads.Unknown h k = absurd (k (whole ws f h).shaped)
read_unique ws (reads.ScriptLine f) (reads.BadNumber n) h k = absurd (bad_form ws n f h k)
read_unique ws (reads.ScriptLine f) (reads.OverLimit n) h k = absurd (k.none f h)
read_unique ws reads.Unknown (reads.ScriptLine g) h k = absurd (h (whole ws g k).shaped)
read_unique ws reads.Unknown reads.Unknown h k = refl
read_unique ws reads.Unknown (reads.BadNumber n) h k = absurd (h k.shaped)
read_unique ws reads.Unknown (reads.OverLimit n) h k = absurd (h k.shaped)
read_unique ws (reads.BadNumber m) (reads.ScriptLine g) h k = absurd (bad_form ws m g k h)
read_unique ws (reads.BadNumber m) reads.Unknown h k = absurd (k h.shaped)
read_unique ws (reads.BadNumber m) (reads.BadNumber n) h k = ap reads.BadNumber (bad_once ws m n h k)
read_unique ws (reads.BadNumber m) (reads.OverLimit n) h k = absurd (bad_over ws m n h k)
read_unique ws (reads.OverLimit m) (reads.ScriptLine g) h k = absurd (h.none g k)
read_unique ws (reads.OverLimit m) reads.Unknown h k = absurd (k h.shaped)
read_unique ws (reads.OverLimit m) (reads.BadNumber n) h k = absurd (bad_over ws n m k h)
read_unique ws (reads.OverLimit m) (reads.OverLimit n) h k = ap reads.OverLimit (over_once ws m n h k)

abbrev numbered_made : ℕ → LineRead → Numbered
numbered_made n read = record { line = n; read = read }

pub numbered_unique : (l : ℕ × List (List ℕ)) (x y : Numbered) → IsNumbered l x → IsNumbered l y → x ≡ y
numbered_unique l x y h k =
    ap (λ n. numbered_made n x.read) (sym h.number ∙ k.number) ∙ ap (λ r. numbered_made y.line r) (read_unique l.1 x.read y.read h.read k.read)

-- a text has one reading
pub one_reading : {bytes : List ℕ} {xs ys : List Numbered} → AreLinesOf bytes xs → AreLinesOf bytes ys → xs ≡ ys
one_reading {bytes} {xs} {ys} h k = Pairs-unique IsNumbered numbered_unique (numbered_lines bytes) xs ys h.each k.each

-- which lines are skipped, by their first byte and the count of their words
pub skipped-remark : (line : List ℕ) → true ≡ is_comment line → is_skipped line ≡ true
skipped-remark line e = ap (λ b. b || (length (words_of line) == 0)) (sym e)

-- what is told of a slice of a line's words
module _ (line : List ℕ) (words slice : List (Bor (List ℕ))) (here : map (λ w. w.now) words ≡ words_of line) (same : slice ≡ words) where
  slice-is : map (λ w. w.now) slice ≡ words_of line
  slice-is = ap (map (λ w. w.now)) same ∙ here

  many : length (words_of line) ≡ length slice
  many = sym (ap length slice-is) ∙ length-map slice (λ w. w.now)

  skipped-as : (b : Bool) → b ≡ is_comment line → (none : Bool) → none ≡ (length slice == 0) → is_skipped line ≡ b || none
  skipped-as b told none is = ap (λ n. is_comment line || (n == 0)) many ∙ ap (λ t. t || (length slice == 0)) (sym told) ∙ ap (λ t. b || t) (sym is)

  pub skipped-blank : false ≡ is_comment line → true ≡ (length slice == 0) → is_skipped line ≡ true
  skipped-blank told none = skipped-as false told true none

  pub not-skipped : false ≡ is_comment line → false ≡ (length slice == 0) → is_skipped line ≡ false
  not-skipped told some = skipped-as false told false some

  pub read-as : (read : LineRead) → IsRead (map (λ w. w.now) slice) read → IsRead (words_of line) read
  read-as read is = subst (λ ws. IsRead ws read) slice-is is
