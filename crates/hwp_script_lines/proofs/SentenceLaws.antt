-- A line has one first word, and what the first word and the others say of the line.
use Rattle.std.proofs.Common.{ℕ, ◌≡◌, ◌<◌, ◌+◌, ◌-◌, ◌*◌, ◌==◌, ◌++◌, cond, Bool, List, [], ◌∷◌, length, get_or, take, drop, map, Bor, refl, sym, ap, subst, ◌∙◌, arith}
use Rattle.std.specs.Prelude.{All}
use Rattle.std.proofs.lemmas.List.{take_all, length-drop}
use Rattle.hwp_script_lines.specs.Grammar.{is_newer, keyword_text, keyword, IsSentence, IsSentenceOver, IsForm, IsPrintable, IsUnknown, IsBadNumber, IsOverLimit, HasShape, HaveNumbers}
use Rattle.hwp_script_lines.specs.declared.script_line.ScriptLine.{ScriptLine}
use Rattle.hwp_script_lines.specs.declared.keywords.Keyword.{Keyword}
use Rattle.hwp_script_lines.specs.declared.keywords.Keyword.TheVariants as keywords
use Rattle.hwp_script_lines.specs.declared.keywords.CommandWord.TheVariants as words
use Rattle.hwp_script_lines.proofs.Listed.{all_heads, all_words}

-- a word as one number
unfoldable pub text_number : List ℕ → ℕ
text_number [] = 0
text_number (b ∷ bs) = b + 256 * text_number bs

abbrev all_keywords : List Keyword
all_keywords = all_heads ++ map keywords.Command all_words

-- the first of these first words that is this number
keyword_among : List Keyword → ℕ → Keyword
keyword_among [] t = keywords.Hwp
keyword_among (k ∷ ks) t = cond (text_number (keyword_text k) == t) k (keyword_among ks t)

keyword_found : (k : Keyword) → keyword_among all_keywords (text_number (keyword_text k)) ≡ k
unfolding text_number keyword_among
keyword_found keywords.Hwp = refl
keyword_found keywords.Cpus = refl
keyword_found keywords.Frames = refl
keyword_found keywords.Kernel = refl
keyword_found keywords.Recovery = refl
keyword_found keywords.Early = refl
keyword_found keywords.File = refl
keyword_found keywords.Proc = refl
keyword_found keywords.Guest = refl
keyword_found keywords.Thread = refl
keyword_found keywords.Page = refl
keyword_found keywords.Trans = refl
keyword_found keywords.Cow = refl
keyword_found keywords.Cpu = refl
keyword_found keywords.Schedule = refl
keyword_found keywords.End = refl
keyword_found (keywords.Command words.Load) = refl
keyword_found (keywords.Command words.Fetch) = refl
keyword_found (keywords.Command words.KLoad) = refl
keyword_found (keywords.Command words.Store) = refl
keyword_found (keywords.Command words.Free) = refl
keyword_found (keywords.Command words.Drop) = refl
keyword_found (keywords.Command words.Sync) = refl
keyword_found (keywords.Command words.Out) = refl
keyword_found (keywords.Command words.Fsync) = refl
keyword_found (keywords.Command words.Open) = refl
keyword_found (keywords.Command words.Prctl) = refl
keyword_found (keywords.Command words.Bad) = refl
keyword_found (keywords.Command words.Weak) = refl
keyword_found (keywords.Command words.Scrub) = refl
keyword_found (keywords.Command words.Log) = refl
keyword_found (keywords.Command words.Raise) = refl
keyword_found (keywords.Command words.Inject) = refl
keyword_found (keywords.Command words.Soft) = refl
keyword_found (keywords.Command words.Unpoison) = refl
keyword_found (keywords.Command words.Watch) = refl
keyword_found (keywords.Command words.Fork) = refl

-- first words of one text are one
pub keyword_text_injective : (j k : Keyword) → keyword_text j ≡ keyword_text k → j ≡ k
keyword_text_injective j k e = sym (keyword_found j) ∙ ap (λ w. keyword_among all_keywords (text_number w)) e ∙ keyword_found k

pub uncons : (ws : List (Bor (List ℕ))) (d : Bor (List ℕ)) → 0 < length ws
    → map (λ w. w.now) ws ≡ (get_or ws 0 d).now ∷ map (λ w. w.now) (drop 1 ws)
uncons [] d l = absurd (omega arith)
uncons (w ∷ ws) d l = refl

pub first_words : (k : Keyword) (j : Keyword) (ws rest us : List (List ℕ)) → ws ≡ keyword_text k ∷ rest → ws ≡ keyword_text j ∷ us → (j ≡ k) × (us ≡ rest)
first_words k j ws rest us e h =
    (keyword_text_injective j k (ap (λ vs. get_or vs 0 []) (sym h ∙ e)), ap (λ vs. drop 1 vs) (sym h ∙ e))

pub sentence_from_form : (ws : List (List ℕ)) (k : Keyword) (rest : List (List ℕ)) (f : ScriptLine) → ws ≡ keyword_text k ∷ rest → IsForm ws f → IsSentence k rest f
sentence_from_form ws k rest f e h =
    let both = first_words k (keyword f) ws rest h.rest e h.same in
    subst (λ us. IsSentence k us f) both.1 (subst (λ j. IsSentence j h.rest f) both.0 h.is)

-- the words of a line, from those behind the first
pub bad_from_sentence : (ws : List (List ℕ)) (k : Keyword) (rest : List (List ℕ)) → ws ≡ keyword_text k ∷ rest → All (All IsPrintable) ws
    → HasShape k rest × (HaveNumbers k rest → ⊥) → (newer : Bool) → newer ≡ is_newer k (length rest) → IsBadNumber ws newer
bad_from_sentence ws k rest e printable h newer is =
    record { shaped = record { printable = printable; first = k; rest = rest; same = e; shape = h.0 }; version = is; none = h.1 }

pub over_from_sentence : (ws : List (List ℕ)) (k : Keyword) (rest : List (List ℕ)) → ws ≡ keyword_text k ∷ rest → All (All IsPrintable) ws
    → IsSentenceOver k rest → (newer : Bool) → newer ≡ is_newer k (length rest) → IsOverLimit ws newer
over_from_sentence ws k rest e printable h newer is = record {
  shaped = record { printable = printable; first = k; rest = rest; same = e; shape = h.shaped };
  version = is;
  numbers = h.numbers;
  none = λ f g. h.none f (sentence_from_form ws k rest f e g);
}

-- the words behind the first, as a pattern takes them
pub behind : (ws : List (Bor (List ℕ))) (w : List ℕ) → map (λ w. w.now) ws ≡ w ∷ map (λ w. w.now) (drop 1 ws)
    → map (λ w. w.now) ws ≡ w ∷ map (λ w. w.now) (take (length ws - 1) (drop 1 ws))
behind ws w e =
    let whole : take (length ws - 1) (drop 1 ws) ≡ drop 1 ws = take_all (length ws - 1) (drop 1 ws) (omega (arith, length-drop 1 ws)) in
    e ∙ ap (λ us. w ∷ map (λ w. w.now) us) (sym whole)

-- words whose first is the first word of a line, and the others as a pattern takes them
pub led : (ws : List (Bor (List ℕ))) (d : Bor (List ℕ)) (k : Keyword) → 0 < length ws → (get_or ws 0 d).now ≡ keyword_text k
    → map (λ w. w.now) ws ≡ keyword_text k ∷ map (λ w. w.now) (take (length ws - 1) (drop 1 ws))
led ws d k l e = behind ws (keyword_text k) (uncons ws d l ∙ ap (λ w. w ∷ map (λ w. w.now) (drop 1 ws)) e)

pub unknown_from_sentence : (ws : List (List ℕ)) (k : Keyword) (rest : List (List ℕ)) → ws ≡ keyword_text k ∷ rest → (HasShape k rest → ⊥) → IsUnknown ws
unknown_from_sentence ws k rest e none = λ h.
    let both = first_words k h.first ws rest h.rest e h.same in none (subst (λ us. HasShape k us) both.1 (subst (λ j. HasShape j h.rest) both.0 h.shape))

pub form_from_sentence : (ws : List (List ℕ)) (k : Keyword) (rest : List (List ℕ)) (f : ScriptLine) → ws ≡ keyword_text k ∷ rest → IsSentence k rest f → IsForm ws f
form_from_sentence ws k rest f e h =
    record { rest = rest; same = e ∙ ap (λ j. keyword_text j ∷ rest) (sym h.kind); is = record { kind = refl; fits = h.fits; same = h.same } }
