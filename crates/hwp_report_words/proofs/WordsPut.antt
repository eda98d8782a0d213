-- What is printed of a number, and of a value that has a name, is a word: it isn't empty, and has no space or line feed in it.
use Rattle.std.proofs.Common.{ℕ, ◌<◌, ◌≤◌, ◌^◌, Bool, true, false, [], ◌∷◌, decimal, refl, arith}
use Rattle.hwp_script_words.specs.hwp_geom.declared.Mode.{Mode}
use Rattle.hwp_script_words.specs.hwp_geom.declared.Mode.TheVariants as modes
use Rattle.hwp_script_words.specs.hwp_geom.declared.Version.{Version}
use Rattle.hwp_script_words.specs.hwp_geom.declared.Version.TheVariants as versions
use Rattle.hwp_script_words.specs.hwp_geom.Words.{hex}
use Rattle.hwp_script_words.proofs.of_hwp_geom.WordsPut.{IsPut, ArePut, put_decimal, put_hex, fixed, then, nothing}
use Rattle.hwp_report_text.specs.hwp_kill.declared.Policy.{Policy}
use Rattle.hwp_report_text.specs.hwp_kill.declared.Policy.TheVariants as policies
use Rattle.hwp_report_text.specs.hwp_kill.declared.Code.{Code}
use Rattle.hwp_report_text.specs.hwp_kill.declared.Code.TheVariants as kinds
use Rattle.hwp_report_text.specs.hwp_page.declared.At.{At}
use Rattle.hwp_report_text.specs.hwp_page.declared.Situation.{Situation}
use Rattle.hwp_report_text.specs.hwp_page.declared.Situation.TheVariants as situations
use Rattle.hwp_report_text.specs.hwp_page.declared.Outcome.{Outcome}
use Rattle.hwp_report_text.specs.hwp_page.declared.Outcome.TheVariants as outcomes
use Rattle.hwp_report_text.specs.declared.Acted.{Acted}
use Rattle.hwp_report_text.specs.declared.Acted.TheVariants as acts
use Rattle.hwp_report_text.specs.hwp_kill.Prctl.{policy_word}
use Rattle.hwp_report_text.specs.Terms.{flag_number, mode_word, code_word, situation_word, outcome_word, origin_word, acted_word, guest_word, version_word}
use Rattle.hwp_report_words.specs.Words.{AtFits}

-- a small number
pub put_small : (n bound : ℕ) → bound ≤ 2 ^ 64 → n < bound → IsPut (decimal n)
put_small n bound high h = put_decimal n (omega (arith, high, h))

pub put_flag : (b : Bool) → IsPut (decimal (flag_number b))
put_flag true = put_decimal 1 (omega arith)
put_flag false = put_decimal 0 (omega arith)

pub put_version : (v : Version) → IsPut (version_word v)
put_version versions.One = fixed _ _ refl
put_version versions.Two = fixed _ _ refl

pub put_mode : (m : Mode) → IsPut (mode_word m)
put_mode modes.User = fixed _ _ refl
put_mode modes.Kernel = fixed _ _ refl

pub put_policy : (p : Policy) → IsPut (policy_word p)
put_policy policies.Late = fixed _ _ refl
put_policy policies.Early = fixed _ _ refl
put_policy policies.Default = fixed _ _ refl

pub put_code : (k : Code) → IsPut (code_word k)
put_code kinds.Ar = fixed _ _ refl
put_code kinds.Ao = fixed _ _ refl

pub put_situation : (s : Situation) → IsPut (situation_word s)
put_situation situations.Free = fixed _ _ refl
put_situation situations.Kernel = fixed _ _ refl
put_situation situations.FileClean = fixed _ _ refl
put_situation situations.FileDirty = fixed _ _ refl
put_situation situations.AnonOnly = fixed _ _ refl
put_situation situations.SwapClean = fixed _ _ refl
put_situation situations.SwapDirty = fixed _ _ refl
put_situation situations.LockedClean = fixed _ _ refl
put_situation situations.LockedFile = fixed _ _ refl
put_situation situations.LockedAnon = fixed _ _ refl

pub put_outcome : (o : Outcome) → IsPut (outcome_word o)
put_outcome outcomes.Recovered = fixed _ _ refl
put_outcome outcomes.Delayed = fixed _ _ refl
put_outcome outcomes.Ignored = fixed _ _ refl

pub put_origin : (b : Bool) → IsPut (origin_word b)
put_origin true = fixed _ _ refl
put_origin false = fixed _ _ refl

pub put_guest : (b : Bool) → IsPut (guest_word b)
put_guest true = fixed _ _ refl
put_guest false = fixed _ _ refl

pub put_acted : (a : Acted) → IsPut (acted_word a)
put_acted acts.None = fixed _ _ refl
put_acted acts.Keep = fixed _ _ refl
put_acted acts.Deferred = fixed _ _ refl
put_acted acts.Logged = fixed _ _ refl
put_acted acts.Recovered = fixed _ _ refl
put_acted acts.Delayed = fixed _ _ refl
put_acted acts.Ignored = fixed _ _ refl
put_acted acts.Already = fixed _ _ refl
put_acted acts.Outside = fixed _ _ refl
put_acted acts.Stop = fixed _ _ refl
put_acted acts.Panic = fixed _ _ refl
put_acted acts.Held = fixed _ _ refl

-- numbers of one, two and four bytes
pub put_u8 : {n : ℕ} → n < 2 ^ 8 → IsPut (decimal n)
put_u8 {n} h = put_small n (2 ^ 8) (omega arith) h

pub put_u16 : {n : ℕ} → n < 2 ^ 16 → IsPut (decimal n)
put_u16 {n} h = put_small n (2 ^ 16) (omega arith) h

pub put_u32 : {n : ℕ} → n < 2 ^ 32 → IsPut (decimal n)
put_u32 {n} h = put_small n (2 ^ 32) (omega arith) h

pub put_u64 : {n : ℕ} → n < 2 ^ 64 → IsPut (decimal n)
put_u64 {n} h = put_decimal n h

pub put_mask : {n : ℕ} → n < 2 ^ 64 → IsPut (hex n)
put_mask {n} h = put_hex n h

pub put_place : (at : At) → AtFits at → ArePut (decimal at.page.0 ∷ decimal at.entry ∷ [])
put_place at h = then (put_u16 h.0) (then (put_u64 h.1) nothing)
