-- From words back to their line: words are those of one line at most.
use Rattle.std.proofs.Common.{ℕ, ◌≡◌, ◌<◌, ◌≤◌, ◌^◌, ◌==◌, cond, Bool, true, false, List, [], ◌∷◌, length, get_or, decimal, refl, sym, ap, ◌∙◌, arith}
use Rattle.std.proofs.lemmas.Fmt.{decimal_injective}
use Rattle.std.proofs.lemmas.List.{append_cancel_right}
use Rattle.hwp_script_words.specs.hwp_geom.Limits.{number, cpu_limit}
use Rattle.hwp_script_words.specs.hwp_geom.declared.Version.{Version}
use Rattle.hwp_script_words.specs.hwp_geom.declared.Version.TheVariants as versions
use Rattle.hwp_script_words.specs.hwp_geom.Pairs.{Pairs}
use Rattle.hwp_script_words.specs.hwp_geom.declared.Kind.{Kind}
use Rattle.hwp_script_words.specs.hwp_geom.declared.Kind.TheVariants as kinds
use Rattle.hwp_script_words.specs.Kinds.{kind_text}
use Rattle.hwp_script_lines.specs.Grammar.{keyword, handler_text, Fits, AreRestWords, IsTurn, AreTurnOver, HaveTurnShape, pieces_of, IsSentence, IsForm}
use Rattle.hwp_script_lines.specs.declared.script_line.ScriptLine.{ScriptLine}
use Rattle.hwp_script_lines.specs.declared.script_line.Backing.{Backing}
use Rattle.hwp_script_words.specs.declared.Go.{Go}
use Rattle.hwp_script_words.specs.declared.Until.{Until}
use Rattle.hwp_script_lines.specs.declared.keywords.Keyword.{Keyword}
use Rattle.hwp_script_lines.specs.declared.script_line.ScriptLine.TheVariants as forms
use Rattle.hwp_script_lines.specs.declared.script_line.Backing.TheVariants as backings
use Rattle.hwp_script_words.specs.declared.Until.TheVariants as untils
use Rattle.hwp_script_lines.specs.declared.keywords.Keyword.TheVariants as keywords
use Rattle.hwp_script_lines.proofs.CommandLaws.{version_low, value, value_is, command_at, command_found}
use Rattle.hwp_script_lines.proofs.Listed.{all_kinds}
use Rattle.hwp_script_words.proofs.PairsLaws.{Pairs-unique}
use Rattle.hwp_script_lines.proofs.SentenceLaws.{text_number, sentence_from_form}
use Rattle.hwp_script_lines.proofs.TurnLaws.{no_dot}

-- the first of these kinds whose name is this number
kind_among : List Kind → ℕ → Kind
kind_among [] t = kinds.LoadPte
kind_among (k ∷ ks) t = cond (text_number (kind_text k) == t) k (kind_among ks t)

kind_found : (k : Kind) → kind_among all_kinds (text_number (kind_text k)) ≡ k
unfolding text_number kind_among
kind_found kinds.LoadPte = refl
kind_found kinds.LoadCache = refl
kind_found kinds.LoadFrame = refl
kind_found kinds.LoadAvail = refl
kind_found kinds.LoadFree = refl
kind_found kinds.LoadBad = refl
kind_found kinds.LoadProc = refl
kind_found kinds.LoadPolicy = refl
kind_found kinds.LoadStop = refl
kind_found kinds.LoadCount = refl
kind_found kinds.Reserve = refl
kind_found kinds.TakeBit = refl
kind_found kinds.GiveBit = refl
kind_found kinds.Unreserve = refl
kind_found kinds.Adopt = refl
kind_found kinds.GetRef = refl
kind_found kinds.PutRef = refl
kind_found kinds.LockFrame = refl
kind_found kinds.UnlockFrame = refl
kind_found kinds.Retire = refl
kind_found kinds.Revive = refl
kind_found kinds.SetOwner = refl
kind_found kinds.LockPage = refl
kind_found kinds.UnlockPage = refl
kind_found kinds.SetPte = refl
kind_found kinds.SetCache = refl
kind_found kinds.Poison = refl
kind_found kinds.CountPoison = refl
kind_found kinds.Uncount = refl
kind_found kinds.Spoil = refl
kind_found kinds.Stop = refl
kind_found kinds.GiveUp = refl
kind_found kinds.Kill = refl
kind_found kinds.SetPolicy = refl
kind_found kinds.Lose = refl
kind_found kinds.ReportLost = refl

kind_text_injective : (j k : Kind) → kind_text j ≡ kind_text k → j ≡ k
kind_text_injective j k e = sym (kind_found j) ∙ ap (λ w. kind_among all_kinds (text_number w)) e ∙ kind_found k

-- the pieces of one word of a schedule
until_unique : (c d : ℕ) (u v : Until) → c < 2 ^ 64 → d < 2 ^ 64 → pieces_of c u ≡ pieces_of d v → (c ≡ d) × (u ≡ v)
until_unique c d untils.One untils.One h k e = (decimal_injective c d h k (ap (λ ws. get_or ws 0 []) e), refl)
until_unique c d untils.One untils.Command h k e = absurd (no_dot c h (decimal d) (ap (λ ws. get_or ws 0 []) e))
until_unique c d untils.One (untils.After j) h k e = absurd (omega (arith, ap length e))
until_unique c d untils.Command untils.One h k e = absurd (no_dot d k (decimal c) (sym (ap (λ ws. get_or ws 0 []) e)))
until_unique c d untils.Command untils.Command h k e =
    (decimal_injective c d h k (append_cancel_right (decimal c) (decimal d) (46 ∷ []) (ap (λ ws. get_or ws 0 []) e)), refl)
until_unique c d untils.Command (untils.After j) h k e = absurd (omega (arith, ap length e))
until_unique c d (untils.After i) untils.One h k e = absurd (omega (arith, ap length e))
until_unique c d (untils.After i) untils.Command h k e = absurd (omega (arith, ap length e))
until_unique c d (untils.After i) (untils.After j) h k e =
    (decimal_injective c d h k (ap (λ ws. get_or ws 0 []) e), ap untils.After (kind_text_injective i j (ap (λ ws. get_or ws 1 []) e)))

abbrev turn_made : ℕ → Until → Go
turn_made c u = record { cpu = record { 0 = c }; until = u }

below_cpus : (n : ℕ) → n < cpu_limit → n < 2 ^ 64
below_cpus n h = omega arith

pub turn_unique : (word : List ℕ) (s t : Go) → IsTurn word s → IsTurn word t → s ≡ t
turn_unique word s t h k =
    let both = until_unique s.cpu.0 t.cpu.0 s.until t.until (below_cpus s.cpu.0 h.fits) (below_cpus t.cpu.0 k.fits) (sym h.same ∙ k.same) in
    ap (λ c. turn_made c s.until) both.0 ∙ ap (λ u. turn_made t.cpu.0 u) both.1

-- a word of a schedule whose number is too high
pub over_turn : (pieces : List (List ℕ)) (c : ℕ) (u : Until) → c < 2 ^ 64 → pieces ≡ pieces_of c u → cpu_limit ≤ c → HaveTurnShape pieces → AreTurnOver pieces
over_turn pieces c u h e out shape = record {
  shaped = shape;
  number = record { cpu = c; until = u; fits = h; same = e };
  none = λ turn k.
      let same = (until_unique c turn.cpu.0 u turn.until h (below_cpus turn.cpu.0 k.fits) (sym e ∙ k.same)).0 in omega (arith, same, k.fits, out);
}

-- what stands behind a page of which so many words say it, and whether it is locked
backing_at : List (List ℕ) → ℕ → Backing
backing_at ws count = cond (count == 2) backings.Anon (cond (count == 3) backings.Anon (backings.File (value ws 2) (value ws 4)))

locked_at : ℕ → Bool
locked_at count = cond (count == 3) true (count == 6)

-- the line of a keyword and the words behind it, where these are the words of a schedule
form_at : List Go → Keyword → List (List ℕ) → ScriptLine
form_at turns keywords.Hwp ws = forms.Header (cond (value ws 0 == 1) versions.One versions.Two)
form_at turns keywords.End ws = forms.End
form_at turns keywords.Schedule ws = forms.Schedule turns
form_at turns (keywords.Command w) ws = forms.Command (command_at w ws)
form_at turns keywords.Trans ws = forms.Trans (value ws 0) (value ws 1) (value ws 2)
form_at turns keywords.Cow ws = forms.Cow (value ws 0) (value ws 1)
form_at turns keywords.Thread ws = forms.Thread (value ws 0) (value ws 1) (value ws 2) (length (get_or ws 3 []) == 7)
form_at turns keywords.Page ws = forms.Page (value ws 0) (backing_at ws (length ws)) (locked_at (length ws))
form_at turns keywords.Cpus ws = forms.Cpus (value ws 0)
form_at turns keywords.Frames ws = forms.Frames (value ws 0)
form_at turns keywords.Kernel ws = forms.Kernel (value ws 0)
form_at turns keywords.Recovery ws = forms.Recovery (value ws 0)
form_at turns keywords.Early ws = forms.Early (value ws 0)
form_at turns keywords.File ws = forms.File (value ws 0)
form_at turns keywords.Proc ws = forms.Proc (value ws 0)
form_at turns keywords.Guest ws = forms.Guest (value ws 0)
form_at turns keywords.Cpu ws = forms.Cpu (value ws 0)

handler_found : (h : Bool) → (length (handler_text h) == 7) ≡ h
handler_found true = refl
handler_found false = refl

-- the turns of a schedule, and none for other lines
turns_of : ScriptLine → List Go
turns_of (forms.Schedule turns) = turns
turns_of f = []

version_found : (v : Version) → cond (number v == 1) versions.One versions.Two ≡ v
version_found versions.One = refl
version_found versions.Two = refl

file_found : (ws : List (List ℕ)) (n x : ℕ) → value ws 2 ≡ n → value ws 4 ≡ x → backings.File (value ws 2) (value ws 4) ≡ backings.File n x
file_found ws n x a b = cc (a, b)

page_found : (ws : List (List ℕ)) (count q : ℕ) (b : Backing) (locked : Bool) → length ws ≡ count → value ws 0 ≡ q → backing_at ws count ≡ b → locked_at count ≡ locked
    → forms.Page (value ws 0) (backing_at ws (length ws)) (locked_at (length ws)) ≡ forms.Page q b locked
page_found ws count q b locked many number behind shut =
    ap (λ k. forms.Page (value ws 0) (backing_at ws k) (locked_at k)) many
    ∙ ap (λ k. forms.Page k (backing_at ws count) (locked_at count)) number
    ∙ ap (λ k. forms.Page q k (locked_at count)) behind
    ∙ ap (λ k. forms.Page q b k) shut

form_found : (turns : List Go) (ws : List (List ℕ)) (f : ScriptLine) → (keyword f ≡ keywords.Schedule → turns ≡ turns_of f) → Fits f → AreRestWords ws f
    → form_at turns (keyword f) ws ≡ f
unfolding form_at turns_of backing_at locked_at
form_found turns ws (forms.Header v) one h e = ap forms.Header (ap (λ n. cond (n == 1) versions.One versions.Two) (value_is ws 0 (number v) (version_low v) (ap (λ us. get_or us 0 []) e)) ∙ version_found v)
form_found turns ws forms.End one h e = refl
form_found turns ws (forms.Schedule ts) one h e = ap forms.Schedule (one refl)
form_found turns ws (forms.Command o) one h e = ap forms.Command (command_found ws o h e)
form_found turns ws (forms.Trans m n p) one h e = cc (value_is ws 0 m h.0 (ap (λ us. get_or us 0 []) e), value_is ws 1 n h.1 (ap (λ us. get_or us 1 []) e), value_is ws 2 p h.2 (ap (λ us. get_or us 2 []) e))
form_found turns ws (forms.Cow m n) one h e = cc (value_is ws 0 m h.0 (ap (λ us. get_or us 0 []) e), value_is ws 1 n h.1 (ap (λ us. get_or us 1 []) e))
form_found turns ws (forms.Thread m n p b) one h e =
    let last : (length (get_or ws 3 []) == 7) ≡ b = ap (λ us. length (get_or us 3 []) == 7) e ∙ handler_found b in
    cc (value_is ws 0 m h.0 (ap (λ us. get_or us 0 []) e), value_is ws 1 n h.1 (ap (λ us. get_or us 1 []) e), value_is ws 2 p h.2 (ap (λ us. get_or us 2 []) e), last)
form_found turns ws (forms.Page q backings.Anon false) one h e =
    page_found ws 2 q backings.Anon false (ap length e) (value_is ws 0 q h (ap (λ us. get_or us 0 []) e)) refl refl
form_found turns ws (forms.Page q backings.Anon true) one h e =
    page_found ws 3 q backings.Anon true (ap length e) (value_is ws 0 q h (ap (λ us. get_or us 0 []) e)) refl refl
form_found turns ws (forms.Page q (backings.File n x) false) one h e =
    page_found ws 5 q (backings.File n x) false (ap length e) (value_is ws 0 q h.0 (ap (λ us. get_or us 0 []) e))
    (file_found ws n x (value_is ws 2 n h.1 (ap (λ us. get_or us 2 []) e)) (value_is ws 4 x h.2 (ap (λ us. get_or us 4 []) e))) refl
form_found turns ws (forms.Page q (backings.File n x) true) one h e =
    page_found ws 6 q (backings.File n x) true (ap length e) (value_is ws 0 q h.0 (ap (λ us. get_or us 0 []) e))
    (file_found ws n x (value_is ws 2 n h.1 (ap (λ us. get_or us 2 []) e)) (value_is ws 4 x h.2 (ap (λ us. get_or us 4 []) e))) refl
form_found turns ws (forms.Cpus n) one h e = ap forms.Cpus (value_is ws 0 n h (ap (λ us. get_or us 0 []) e))
form_found turns ws (forms.Frames n) one h e = ap forms.Frames (value_is ws 0 n h (ap (λ us. get_or us 0 []) e))
form_found turns ws (forms.Kernel n) one h e = ap forms.Kernel (value_is ws 0 n h (ap (λ us. get_or us 0 []) e))
form_found turns ws (forms.Recovery n) one h e = ap forms.Recovery (value_is ws 0 n h (ap (λ us. get_or us 0 []) e))
form_found turns ws (forms.Early n) one h e = ap forms.Early (value_is ws 0 n h (ap (λ us. get_or us 0 []) e))
form_found turns ws (forms.File n) one h e = ap forms.File (value_is ws 0 n h (ap (λ us. get_or us 0 []) e))
form_found turns ws (forms.Proc n) one h e = ap forms.Proc (value_is ws 0 n h (ap (λ us. get_or us 0 []) e))
form_found turns ws (forms.Guest n) one h e = ap forms.Guest (value_is ws 0 n h (ap (λ us. get_or us 0 []) e))
form_found turns ws (forms.Cpu n) one h e = ap forms.Cpu (value_is ws 0 n h (ap (λ us. get_or us 0 []) e))

turns_unique : (ws : List (List ℕ)) (turns : List Go) (g : ScriptLine) → Pairs IsTurn ws turns → AreRestWords ws g → keyword g ≡ keywords.Schedule
    → turns ≡ turns_of g
unfolding turns_of
turns_unique ws turns (forms.Schedule ts) h k e = Pairs-unique IsTurn turn_unique ws turns ts h k
turns_unique ws turns (forms.Header v) h k e = absurd (cc e)
turns_unique ws turns (forms.Command o) h k e = absurd (cc e)
turns_unique ws turns (forms.Trans m n p) h k e = absurd (cc e)
turns_unique ws turns (forms.Cow m n) h k e = absurd (cc e)
turns_unique ws turns (forms.Thread m n p b) h k e = absurd (cc e)
turns_unique ws turns (forms.Page q b l) h k e = absurd (cc e)
turns_unique ws turns forms.End h k e = absurd (cc e)
turns_unique ws turns (forms.Cpus n) h k e = absurd (cc e)
turns_unique ws turns (forms.Frames n) h k e = absurd (cc e)
turns_unique ws turns (forms.Kernel n) h k e = absurd (cc e)
turns_unique ws turns (forms.Recovery n) h k e = absurd (cc e)
turns_unique ws turns (forms.Early n) h k e = absurd (cc e)
turns_unique ws turns (forms.File n) h k e = absurd (cc e)
turns_unique ws turns (forms.Proc n) h k e = absurd (cc e)
turns_unique ws turns (forms.Guest n) h k e = absurd (cc e)
turns_unique ws turns (forms.Cpu n) h k e = absurd (cc e)

-- the turns of a line are those of any line of these words
turns_agree : (ws : List (List ℕ)) (f g : ScriptLine) → keyword f ≡ keyword g → AreRestWords ws f → AreRestWords ws g → keyword g ≡ keywords.Schedule
    → turns_of f ≡ turns_of g
unfolding turns_of
turns_agree ws (forms.Schedule ts) g same h k e = turns_unique ws ts g h k e
turns_agree ws (forms.Header v) g same h k e = absurd (cc (same ∙ e))
turns_agree ws (forms.Command o) g same h k e = absurd (cc (same ∙ e))
turns_agree ws (forms.Trans m n p) g same h k e = absurd (cc (same ∙ e))
turns_agree ws (forms.Cow m n) g same h k e = absurd (cc (same ∙ e))
turns_agree ws (forms.Thread m n p b) g same h k e = absurd (cc (same ∙ e))
turns_agree ws (forms.Page q b l) g same h k e = absurd (cc (same ∙ e))
turns_agree ws forms.End g same h k e = absurd (cc (same ∙ e))
turns_agree ws (forms.Cpus n) g same h k e = absurd (cc (same ∙ e))
turns_agree ws (forms.Frames n) g same h k e = absurd (cc (same ∙ e))
turns_agree ws (forms.Kernel n) g same h k e = absurd (cc (same ∙ e))
turns_agree ws (forms.Recovery n) g same h k e = absurd (cc (same ∙ e))
turns_agree ws (forms.Early n) g same h k e = absurd (cc (same ∙ e))
turns_agree ws (forms.File n) g same h k e = absurd (cc (same ∙ e))
turns_agree ws (forms.Proc n) g same h k e = absurd (cc (same ∙ e))
turns_agree ws (forms.Guest n) g same h k e = absurd (cc (same ∙ e))
turns_agree ws (forms.Cpu n) g same h k e = absurd (cc (same ∙ e))

pub sentence_unique : (k : Keyword) (ws : List (List ℕ)) (f g : ScriptLine) → IsSentence k ws f → IsSentence k ws g → f ≡ g
sentence_unique k ws f g h j =
    let same : keyword f ≡ keyword g = h.kind ∙ sym j.kind in
    sym (form_found (turns_of f) ws f (λ e. refl) h.fits h.same)
    ∙ ap (λ i. form_at (turns_of f) i ws) same
    ∙ form_found (turns_of f) ws g (λ e. turns_agree ws f g same h.same j.same e) j.fits j.same

-- words are the words of one line
pub form_unique : (ws : List (List ℕ)) (f g : ScriptLine) → IsForm ws f → IsForm ws g → f ≡ g
form_unique ws f g h k = sentence_unique (keyword f) h.rest f g h.is (sentence_from_form ws (keyword f) h.rest g h.same k)
