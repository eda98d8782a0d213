-- No two numbers, and no two values that have names, have the same word.
use Rattle.std.proofs.Common.{◌≡◌, ℕ, ◌+◌, ◌*◌, ◌<◌, ◌^◌, Bool, true, false, List, [], ◌∷◌, get_or, decimal, refl, sym, ap, ◌∙◌, arith}
use Rattle.std.proofs.lemmas.Fmt.{decimal_injective, digits_is_IsNumeral}
use Rattle.std.specs.Str.Parse.{digits_value}
use Rattle.hwp_script_words.specs.hwp_geom.Words.{hex}
use Rattle.hwp_script_words.specs.hwp_geom.declared.Mode.{Mode}
use Rattle.hwp_script_words.specs.hwp_geom.declared.Mode.TheVariants as modes
use Rattle.hwp_script_words.specs.hwp_geom.declared.Version.{Version}
use Rattle.hwp_script_words.specs.hwp_geom.declared.Version.TheVariants as versions
use Rattle.hwp_script_words.specs.hwp_geom.declared.Who.{Who}
use Rattle.hwp_report_text.specs.hwp_kill.declared.Policy.{Policy}
use Rattle.hwp_report_text.specs.hwp_kill.declared.Policy.TheVariants as policies
use Rattle.hwp_report_text.specs.hwp_kill.declared.Code.{Code}
use Rattle.hwp_report_text.specs.hwp_kill.declared.Code.TheVariants as kinds
use Rattle.hwp_report_text.specs.hwp_page.declared.At.{At}
use Rattle.hwp_report_text.specs.hwp_page.declared.Situation.{Situation}
use Rattle.hwp_report_text.specs.hwp_page.declared.Situation.TheVariants as situations
use Rattle.hwp_report_text.specs.hwp_page.declared.Outcome.{Outcome}
use Rattle.hwp_report_text.specs.hwp_page.declared.Outcome.TheVariants as outcomes
use Rattle.hwp_report_text.specs.declared.Acted.{Acted}
use Rattle.hwp_report_text.specs.declared.Acted.TheVariants as acts
use Rattle.hwp_report_text.specs.hwp_kill.Prctl.{policy_word}
use Rattle.hwp_report_text.specs.Terms.{flag_number, mode_word, code_word, situation_word, outcome_word, origin_word, acted_word, guest_word, version_word}
use Rattle.hwp_report_words.specs.Words.{AtFits}

-- a word as a number
abbrev pub tag : List ℕ → ℕ
tag [] = 0
tag (b ∷ bs) = b + 256 * tag bs

-- the tag of the word at a place
abbrev pub tag_at : ℕ → List (List ℕ) → ℕ
tag_at n ws = tag (get_or ws n [])

hex_injective : (m n : ℕ) → m < 2 ^ 64 → n < 2 ^ 64 → hex m ≡ hex n → m ≡ n
hex_injective m n a b e =
    let x = (digits_is_IsNumeral 16 false (omega arith) (omega arith) m (omega arith)).1 in
    let y = (digits_is_IsNumeral 16 false (omega arith) (omega arith) n (omega arith)).1 in
    sym x ∙ ap (digits_value 16) e ∙ y

pub same_version : (a b : Version) → version_word a ≡ version_word b → a ≡ b
same_version versions.One versions.One e = refl
same_version versions.One b e = absurd (omega (arith, ap tag e))
same_version versions.Two versions.Two e = refl
same_version versions.Two b e = absurd (omega (arith, ap tag e))

pub same_mode : (a b : Mode) → mode_word a ≡ mode_word b → a ≡ b
same_mode modes.User modes.User e = refl
same_mode modes.User b e = absurd (omega (arith, ap tag e))
same_mode modes.Kernel modes.Kernel e = refl
same_mode modes.Kernel b e = absurd (omega (arith, ap tag e))

pub same_policy : (a b : Policy) → policy_word a ≡ policy_word b → a ≡ b
same_policy policies.Late policies.Late e = refl
same_policy policies.Late b e = absurd (omega (arith, ap tag e))
same_policy policies.Early policies.Early e = refl
same_policy policies.Early b e = absurd (omega (arith, ap tag e))
same_policy policies.Default policies.Default e = refl
same_policy policies.Default b e = absurd (omega (arith, ap tag e))

pub same_code : (a b : Code) → code_word a ≡ code_word b → a ≡ b
same_code kinds.Ar kinds.Ar e = refl
same_code kinds.Ar b e = absurd (omega (arith, ap tag e))
same_code kinds.Ao kinds.Ao e = refl
same_code kinds.Ao b e = absurd (omega (arith, ap tag e))

pub same_situation : (a b : Situation) → situation_word a ≡ situation_word b → a ≡ b
same_situation situations.Free situations.Free e = refl
same_situation situations.Free b e = absurd (omega (arith, ap tag e))
same_situation situations.Kernel situations.Kernel e = refl
same_situation situations.Kernel b e = absurd (omega (arith, ap tag e))
same_situation situations.FileClean situations.FileClean e = refl
same_situation situations.FileClean b e = absurd (omega (arith, ap tag e))
same_situation situations.FileDirty situations.FileDirty e = refl
same_situation situations.FileDirty b e = absurd (omega (arith, ap tag e))
same_situation situations.AnonOnly situations.AnonOnly e = refl
same_situation situations.AnonOnly b e = absurd (omega (arith, ap tag e))
same_situation situations.SwapClean situations.SwapClean e = refl
same_situation situations.SwapClean b e = absurd (omega (arith, ap tag e))
same_situation situations.SwapDirty situations.SwapDirty e = refl
same_situation situations.SwapDirty b e = absurd (omega (arith, ap tag e))
same_situation situations.LockedClean situations.LockedClean e = refl
same_situation situations.LockedClean b e = absurd (omega (arith, ap tag e))
same_situation situations.LockedFile situations.LockedFile e = refl
same_situation situations.LockedFile b e = absurd (omega (arith, ap tag e))
same_situation situations.LockedAnon situations.LockedAnon e = refl
same_situation situations.LockedAnon b e = absurd (omega (arith, ap tag e))

pub same_outcome : (a b : Outcome) → outcome_word a ≡ outcome_word b → a ≡ b
same_outcome outcomes.Recovered outcomes.Recovered e = refl
same_outcome outcomes.Recovered b e = absurd (omega (arith, ap tag e))
same_outcome outcomes.Delayed outcomes.Delayed e = refl
same_outcome outcomes.Delayed b e = absurd (omega (arith, ap tag e))
same_outcome outcomes.Ignored outcomes.Ignored e = refl
same_outcome outcomes.Ignored b e = absurd (omega (arith, ap tag e))

pub same_origin : (a b : Bool) → origin_word a ≡ origin_word b → a ≡ b
same_origin true true e = refl
same_origin true b e = absurd (omega (arith, ap tag e))
same_origin false false e = refl
same_origin false b e = absurd (omega (arith, ap tag e))

pub same_guest : (a b : Bool) → guest_word a ≡ guest_word b → a ≡ b
same_guest true true e = refl
same_guest true b e = absurd (omega (arith, ap tag e))
same_guest false false e = refl
same_guest false b e = absurd (omega (arith, ap tag e))

pub same_acted : (a b : Acted) → acted_word a ≡ acted_word b → a ≡ b
same_acted acts.None acts.None e = refl
same_acted acts.None b e = absurd (omega (arith, ap tag e))
same_acted acts.Keep acts.Keep e = refl
same_acted acts.Keep b e = absurd (omega (arith, ap tag e))
same_acted acts.Deferred acts.Deferred e = refl
same_acted acts.Deferred b e = absurd (omega (arith, ap tag e))
same_acted acts.Logged acts.Logged e = refl
same_acted acts.Logged b e = absurd (omega (arith, ap tag e))
same_acted acts.Recovered acts.Recovered e = refl
same_acted acts.Recovered b e = absurd (omega (arith, ap tag e))
same_acted acts.Delayed acts.Delayed e = refl
same_acted acts.Delayed b e = absurd (omega (arith, ap tag e))
same_acted acts.Ignored acts.Ignored e = refl
same_acted acts.Ignored b e = absurd (omega (arith, ap tag e))
same_acted acts.Already acts.Already e = refl
same_acted acts.Already b e = absurd (omega (arith, ap tag e))
same_acted acts.Outside acts.Outside e = refl
same_acted acts.Outside b e = absurd (omega (arith, ap tag e))
same_acted acts.Stop acts.Stop e = refl
same_acted acts.Stop b e = absurd (omega (arith, ap tag e))
same_acted acts.Panic acts.Panic e = refl
same_acted acts.Panic b e = absurd (omega (arith, ap tag e))
same_acted acts.Held acts.Held e = refl
same_acted acts.Held b e = absurd (omega (arith, ap tag e))

-- numbers of one, two, four and eight bytes, and masks
pub same_u8 : {m n : ℕ} → m < 2 ^ 8 → n < 2 ^ 8 → decimal m ≡ decimal n → m ≡ n
same_u8 {m} {n} a b e = decimal_injective m n (omega arith) (omega arith) e

pub same_u16 : {m n : ℕ} → m < 2 ^ 16 → n < 2 ^ 16 → decimal m ≡ decimal n → m ≡ n
same_u16 {m} {n} a b e = decimal_injective m n (omega arith) (omega arith) e

pub same_u32 : {m n : ℕ} → m < 2 ^ 32 → n < 2 ^ 32 → decimal m ≡ decimal n → m ≡ n
same_u32 {m} {n} a b e = decimal_injective m n (omega arith) (omega arith) e

pub same_u64 : {m n : ℕ} → m < 2 ^ 64 → n < 2 ^ 64 → decimal m ≡ decimal n → m ≡ n
same_u64 {m} {n} a b e = decimal_injective m n a b e

pub same_line : {m n : ℕ} → m < 64 → n < 64 → decimal m ≡ decimal n → m ≡ n
same_line {m} {n} a b e = decimal_injective m n (omega arith) (omega arith) e

pub same_mask : {m n : ℕ} → m < 2 ^ 64 → n < 2 ^ 64 → hex m ≡ hex n → m ≡ n
same_mask {m} {n} a b e = hex_injective m n a b e

-- the words at one place of two equal lines
pub word_at : (k : ℕ) {ws vs : List (List ℕ)} → ws ≡ vs → get_or ws k [] ≡ get_or vs k []
word_at k e = ap (λ ws. get_or ws k []) e

pub same_flag : (a b : Bool) → decimal (flag_number a) ≡ decimal (flag_number b) → a ≡ b
same_flag true true e = refl
same_flag false false e = refl
same_flag true false e = absurd (omega (arith, same_u8 {m = 1} {n = 0} (omega arith) (omega arith) e))
same_flag false true e = absurd (omega (arith, same_u8 {m = 0} {n = 1} (omega arith) (omega arith) e))

pub same_who : (a b : Who) → (a.cpu.0 < 2 ^ 8) × (a.seq < 2 ^ 32) → (b.cpu.0 < 2 ^ 8) × (b.seq < 2 ^ 32) → decimal a.cpu.0 ≡ decimal b.cpu.0
    → decimal a.seq ≡ decimal b.seq → a ≡ b
same_who a b f g c s = λ i. record { cpu = record { 0 = same_u8 f.0 g.0 c i }; seq = same_u32 f.1 g.1 s i }

pub same_at : (a b : At) → AtFits a → AtFits b → decimal a.page.0 ∷ decimal a.entry ∷ [] ≡ decimal b.page.0 ∷ decimal b.entry ∷ [] → a ≡ b
same_at a b f g e = λ i. record { page = record { 0 = same_u16 f.0 g.0 (word_at 0 e) i }; entry = same_u64 f.1 g.1 (word_at 1 e) i }
