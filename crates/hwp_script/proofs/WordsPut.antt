-- The words of the lines of a script are put together so that a line can be cut back to them.
use Rattle.std.proofs.Common.{ℕ, ◌≡◌, ◌≢◌, ◌<◌, ◌≤◌, ◌^◌, ◌==◌, ◌&&◌, not, Bool, true, false, List, [], ◌∷◌, map, decimal, codes, refl, arith}
use Rattle.std.specs.Prelude.{All}
use Rattle.std.specs.Char.{digit_value}
use Rattle.std.specs.Str.Parse.{AllDigits}
use Rattle.std.proofs.lemmas.Bool.{and_parts}
use Rattle.std.proofs.lemmas.Bool.Decides.{nat_tests}
use Rattle.std.proofs.lemmas.Fmt.{decimal_is_IsNumeral}
use Rattle.std.proofs.lemmas.List.Elements.{All-nil, All-cons, All-head, All-tail}
use Rattle.hwp_script_read.specs.hwp_geom.Limits.{number, line_limit, file_limit, process_limit, thread_limit, cpu_limit, frame_limit, page_limit, translation_limit}
use Rattle.hwp_script_read.specs.hwp_geom.Words.{hex}
use Rattle.hwp_script_read.specs.hwp_geom.declared.Version.{Version}
use Rattle.hwp_script_read.specs.hwp_geom.declared.Version.TheVariants as versions
use Rattle.hwp_script_read.specs.hwp_geom.declared.Kind.{Kind}
use Rattle.hwp_script_read.specs.hwp_geom.declared.Kind.TheVariants as kinds
use Rattle.hwp_script_read.proofs.of_hwp_geom.WordsPut.{IsHigh, IsPut, ArePut, put_append, put_decimal, put_hex, are_fixed, fixed_high, fixed, then, nothing}
use Rattle.hwp_script_read.specs.hwp_script_lines.hwp_cec.Limits.{threshold_limit, window_limit}
use Rattle.hwp_script_read.specs.hwp_script_words.Kinds.{kind_text}
use Rattle.hwp_script_read.specs.hwp_script_lines.Numbers.{register}
use Rattle.hwp_script_read.specs.hwp_script_lines.Grammar.{bit, keyword, keyword_text, command_words, rest_words, form_words, locked_words, handler_text, turn_text, until_text, Fits, CommandFits}
use Rattle.hwp_script_read.specs.Context.{words_of as turns_in}
use Rattle.hwp_script_read.specs.hwp_script_lines.declared.ScriptLine.{ScriptLine}
use Rattle.hwp_script_read.specs.hwp_script_lines.declared.Command.{Command}
use Rattle.hwp_script_read.specs.hwp_script_lines.declared.Go.{Go}
use Rattle.hwp_script_read.specs.hwp_script_lines.declared.Until.{Until}
use Rattle.hwp_script_read.specs.hwp_script_lines.declared.ScriptLine.TheVariants as forms
use Rattle.hwp_script_read.specs.hwp_script_lines.declared.Command.TheVariants as commands
use Rattle.hwp_script_read.specs.hwp_script_lines.declared.Backing.TheVariants as backings
use Rattle.hwp_script_read.specs.hwp_script_lines.declared.Until.TheVariants as untils
use Rattle.hwp_script_read.proofs.of_hwp_script_lines.CommandLaws.{bit_low, low, low_to}

-- not `@`
abbrev pub IsNoAt : ℕ → Type 0
IsNoAt b = b ≢ 64

-- no digit is `@`
digit_no_at : (b : ℕ) → digit_value b < 16 → IsNoAt b
digit_no_at b h = grind (arith, nat_tests)

digits_no_at : (base : ℕ) → base ≤ 16 → (ds : List ℕ) → AllDigits base ds → All IsNoAt ds
digits_no_at base low [] h = All-nil IsNoAt
digits_no_at base low (d ∷ ds) h = All-cons IsNoAt d ds (digit_no_at d (omega (arith, h.0))) (digits_no_at base low ds h.1)

pub no_at-decimal : (n : ℕ) → n < 2 ^ 64 → All IsNoAt (decimal n)
no_at-decimal n h = digits_no_at 10 (omega arith) (decimal n) (decimal_is_IsNumeral n h).0.1

-- whether no byte of a fixed word is `@`
abbrev has_no_at : List ℕ → Bool
has_no_at [] = true
has_no_at (b ∷ bs) = not (b == 64) && has_no_at bs

byte_no_at : (b : ℕ) → not (b == 64) ≡ true → IsNoAt b
byte_no_at b h = grind (arith, nat_tests)

fixed_no_at : (bs : List ℕ) → has_no_at bs ≡ true → All IsNoAt bs
fixed_no_at [] h = All-nil IsNoAt
fixed_no_at (b ∷ bs) h =
    let parts = and_parts (not (b == 64)) (has_no_at bs) h in All-cons IsNoAt b bs (byte_no_at b parts.0) (fixed_no_at bs parts.1)

pub put_register : (n : ℕ) → n < 2 ^ 64 → IsPut (register n)
put_register n h = put_append (hex n) (fixed 48 (120 ∷ []) refl) (put_hex n h).high

-- the first word of a line
put_first : (f : ScriptLine) → IsPut (keyword_text (keyword f))
put_first (forms.Header v) = fixed _ _ refl
put_first forms.End = fixed _ _ refl
put_first (forms.Cpus n) = fixed _ _ refl
put_first (forms.Frames n) = fixed _ _ refl
put_first (forms.Kernel n) = fixed _ _ refl
put_first (forms.Recovery n) = fixed _ _ refl
put_first (forms.Early n) = fixed _ _ refl
put_first (forms.File n) = fixed _ _ refl
put_first (forms.Proc n) = fixed _ _ refl
put_first (forms.Guest n) = fixed _ _ refl
put_first (forms.Cpu n) = fixed _ _ refl
put_first (forms.Thread t p c h) = fixed _ _ refl
put_first (forms.Page q b l) = fixed _ _ refl
put_first (forms.Trans v p q) = fixed _ _ refl
put_first (forms.Cow v w) = fixed _ _ refl
put_first (forms.Schedule ts) = fixed _ _ refl
put_first (forms.Command (commands.Load t v l)) = fixed _ _ refl
put_first (forms.Command (commands.Fetch t v l)) = fixed _ _ refl
put_first (forms.Command (commands.KLoad t v l)) = fixed _ _ refl
put_first (forms.Command (commands.Store t v l x)) = fixed _ _ refl
put_first (forms.Command (commands.Free v)) = fixed _ _ refl
put_first (forms.Command (commands.Drop q)) = fixed _ _ refl
put_first (forms.Command (commands.Sync q)) = fixed _ _ refl
put_first (forms.Command (commands.Out q)) = fixed _ _ refl
put_first (forms.Command (commands.Fsync n)) = fixed _ _ refl
put_first (forms.Command (commands.Open n)) = fixed _ _ refl
put_first (forms.Command (commands.Prctl t args)) = fixed _ _ refl
put_first (forms.Command (commands.Bad f l)) = fixed _ _ refl
put_first (forms.Command (commands.Weak f l)) = fixed _ _ refl
put_first (forms.Command (commands.Scrub a b)) = fixed _ _ refl
put_first (forms.Command (commands.Log s a m)) = fixed _ _ refl
put_first (forms.Command (commands.RaiseUser t r e)) = fixed _ _ refl
put_first (forms.Command (commands.RaiseKernel r e)) = fixed _ _ refl
put_first (forms.Command commands.RaiseNested) = fixed _ _ refl
put_first (forms.Command (commands.Inject f)) = fixed _ _ refl
put_first (forms.Command (commands.Soft f)) = fixed _ _ refl
put_first (forms.Command (commands.Unpoison f)) = fixed _ _ refl
put_first (forms.Command (commands.Watch t w)) = fixed _ _ refl
put_first (forms.Command (commands.Fork t p)) = fixed _ _ refl

-- whether a name of a kind of step is a fixed word without `@`
fixed_kind : (k : Kind) → (are_fixed (kind_text k) && has_no_at (kind_text k)) ≡ true
fixed_kind kinds.LoadPte = refl
fixed_kind kinds.LoadCache = refl
fixed_kind kinds.LoadFrame = refl
fixed_kind kinds.LoadAvail = refl
fixed_kind kinds.LoadFree = refl
fixed_kind kinds.LoadBad = refl
fixed_kind kinds.LoadProc = refl
fixed_kind kinds.LoadPolicy = refl
fixed_kind kinds.LoadStop = refl
fixed_kind kinds.LoadCount = refl
fixed_kind kinds.Reserve = refl
fixed_kind kinds.TakeBit = refl
fixed_kind kinds.GiveBit = refl
fixed_kind kinds.Unreserve = refl
fixed_kind kinds.Adopt = refl
fixed_kind kinds.GetRef = refl
fixed_kind kinds.PutRef = refl
fixed_kind kinds.LockFrame = refl
fixed_kind kinds.UnlockFrame = refl
fixed_kind kinds.Retire = refl
fixed_kind kinds.Revive = refl
fixed_kind kinds.SetOwner = refl
fixed_kind kinds.LockPage = refl
fixed_kind kinds.UnlockPage = refl
fixed_kind kinds.SetPte = refl
fixed_kind kinds.SetCache = refl
fixed_kind kinds.Poison = refl
fixed_kind kinds.CountPoison = refl
fixed_kind kinds.Uncount = refl
fixed_kind kinds.Spoil = refl
fixed_kind kinds.Stop = refl
fixed_kind kinds.GiveUp = refl
fixed_kind kinds.Kill = refl
fixed_kind kinds.SetPolicy = refl
fixed_kind kinds.Lose = refl
fixed_kind kinds.ReportLost = refl

high-kind : (k : Kind) → All IsHigh (kind_text k)
high-kind k = fixed_high (kind_text k) (and_parts (are_fixed (kind_text k)) (has_no_at (kind_text k)) (fixed_kind k)).0

pub no_at-kind : (k : Kind) → All IsNoAt (kind_text k)
no_at-kind k = fixed_no_at (kind_text k) (and_parts (are_fixed (kind_text k)) (has_no_at (kind_text k)) (fixed_kind k)).1

put_handler : (h : Bool) → IsPut (handler_text h)
put_handler true = fixed _ _ refl
put_handler false = fixed _ _ refl

high_until : (u : Until) → All IsHigh (until_text u)
high_until untils.One = All-nil IsHigh
high_until untils.Command = fixed_high (codes ".") refl
high_until (untils.After k) = All-cons IsHigh 64 (kind_text k) (omega arith) (high-kind k)

put_turn : (t : Go) → t.cpu.0 < cpu_limit → IsPut (turn_text t)
put_turn t h = put_append (until_text t.until) (put_decimal t.cpu.0 (low t.cpu.0 cpu_limit h (omega arith))) (high_until t.until)

put_turns : (ts : List Go) → All (λ (t : Go). t.cpu.0 < cpu_limit) ts → ArePut (map turn_text ts)
put_turns [] h = nothing
put_turns (t ∷ ts) h = then (put_turn t (All-head (λ (t : Go). t.cpu.0 < cpu_limit) t ts h)) (put_turns ts (All-tail (λ (t : Go). t.cpu.0 < cpu_limit) t ts h))

put_command : (c : Command) → CommandFits c → ArePut (command_words c)
put_command (commands.Load t v l) h = then (put_decimal t.0 (low t.0 thread_limit h.0 (omega arith))) (then (put_decimal v.0 (low v.0 translation_limit h.1 (omega arith))) (then (put_decimal l (low l line_limit h.2 (omega arith))) nothing))
put_command (commands.Fetch t v l) h = then (put_decimal t.0 (low t.0 thread_limit h.0 (omega arith))) (then (put_decimal v.0 (low v.0 translation_limit h.1 (omega arith))) (then (put_decimal l (low l line_limit h.2 (omega arith))) nothing))
put_command (commands.KLoad t v l) h = then (put_decimal t.0 (low t.0 thread_limit h.0 (omega arith))) (then (put_decimal v.0 (low v.0 translation_limit h.1 (omega arith))) (then (put_decimal l (low l line_limit h.2 (omega arith))) nothing))
put_command (commands.Store t v l x) h =
    then (put_decimal t.0 (low t.0 thread_limit h.0.0 (omega arith))) (then (put_decimal v.0 (low v.0 translation_limit h.0.1 (omega arith))) (then (put_decimal l (low l line_limit h.0.2 (omega arith))) (then (put_decimal x h.1) nothing)))
put_command (commands.Free v) h = then (put_decimal v.0 (low v.0 translation_limit h (omega arith))) nothing
put_command (commands.Drop q) h = then (put_decimal q.0 (low q.0 page_limit h (omega arith))) nothing
put_command (commands.Sync q) h = then (put_decimal q.0 (low q.0 page_limit h (omega arith))) nothing
put_command (commands.Out q) h = then (put_decimal q.0 (low q.0 page_limit h (omega arith))) nothing
put_command (commands.Fsync n) h = then (put_decimal n.0 (low n.0 file_limit h (omega arith))) nothing
put_command (commands.Open n) h = then (put_decimal n.0 (low n.0 file_limit h (omega arith))) nothing
put_command (commands.Inject f) h = then (put_decimal f.0 (low f.0 frame_limit h (omega arith))) nothing
put_command (commands.Soft f) h = then (put_decimal f.0 (low f.0 frame_limit h (omega arith))) nothing
put_command (commands.Unpoison f) h = then (put_decimal f.0 (low f.0 frame_limit h (omega arith))) nothing
put_command (commands.Bad f l) h = then (put_decimal f.0 (low f.0 frame_limit h.0 (omega arith))) (then (put_decimal l (low l line_limit h.1 (omega arith))) nothing)
put_command (commands.Weak f l) h = then (put_decimal f.0 (low f.0 frame_limit h.0 (omega arith))) (then (put_decimal l (low l line_limit h.1 (omega arith))) nothing)
put_command (commands.Scrub a b) h = then (put_decimal a.0 (low a.0 frame_limit (omega (arith, h.0, h.1)) (omega arith))) (then (put_decimal b.0 (low b.0 frame_limit h.1 (omega arith))) nothing)
put_command (commands.Watch t w) h = then (put_decimal t (low_to t threshold_limit h.1 (omega arith))) (then (put_decimal w (low_to w window_limit h.3 (omega arith))) nothing)
put_command (commands.Fork t p) h = then (put_decimal t.0 (low t.0 thread_limit h.0 (omega arith))) (then (put_decimal p.0 (low p.0 process_limit h.1 (omega arith))) nothing)
put_command (commands.Prctl t args) h =
    then (put_decimal t.0 (low t.0 thread_limit h.0 (omega arith))) (then (put_decimal args.operation h.1) (then (put_decimal args.arg2 h.2) (then (put_decimal args.arg3 h.3) (then (put_decimal args.arg4 h.4) (then (put_decimal args.arg5 h.5) nothing)))))
put_command (commands.Log s a m) h = then (put_register s h.0) (then (put_register a h.1) (then (put_register m h.2) nothing))
put_command (commands.RaiseUser t r e) h =
    then (fixed _ _ refl) (then (put_decimal t.0 (low t.0 thread_limit h (omega arith))) (then (put_decimal (bit r) (bit_low r)) (then (put_decimal (bit e) (bit_low e)) nothing)))
put_command (commands.RaiseKernel r e) h = then (fixed _ _ refl) (then (put_decimal (bit r) (bit_low r)) (then (put_decimal (bit e) (bit_low e)) nothing))
put_command commands.RaiseNested h = then (fixed _ _ refl) nothing

-- the numbers of a line fit, also in words of the schedule
pub record IsWhole (f : ScriptLine) : Type 0 where
  pub fits : Fits f
  pub turns : All (λ (t : Go). t.cpu.0 < cpu_limit) (turns_in f)

low_version : (v : Version) → number v < 2 ^ 64
low_version versions.One = omega arith
low_version versions.Two = omega arith

put_locked : (locked : Bool) → ArePut (locked_words locked)
put_locked true = then (fixed _ _ refl) nothing
put_locked false = nothing

put_rest : (f : ScriptLine) → Fits f → All (λ (t : Go). t.cpu.0 < cpu_limit) (turns_in f) → ArePut (rest_words f)
put_rest (forms.Header v) h k = then (put_decimal (number v) (low_version v)) nothing
put_rest (forms.Cpus n) h k = then (put_decimal n h) nothing
put_rest (forms.Frames n) h k = then (put_decimal n h) nothing
put_rest (forms.Kernel n) h k = then (put_decimal n h) nothing
put_rest (forms.Recovery n) h k = then (put_decimal n h) nothing
put_rest (forms.Early n) h k = then (put_decimal n h) nothing
put_rest (forms.File n) h k = then (put_decimal n h) nothing
put_rest (forms.Proc n) h k = then (put_decimal n h) nothing
put_rest (forms.Guest n) h k = then (put_decimal n h) nothing
put_rest (forms.Cpu n) h k = then (put_decimal n h) nothing
put_rest (forms.Thread t p c b) h k = then (put_decimal t h.0) (then (put_decimal p h.1) (then (put_decimal c h.2) (then (put_handler b) nothing)))
put_rest (forms.Page q backings.Anon locked) h k = then (put_decimal q h) (then (fixed _ _ refl) (put_locked locked))
put_rest (forms.Page q (backings.File n x) locked) h k =
    then (put_decimal q h.0) (then (fixed _ _ refl) (then (put_decimal n h.1) (then (fixed _ _ refl) (then (put_decimal x h.2) (put_locked locked)))))
put_rest (forms.Trans v p q) h k = then (put_decimal v h.0) (then (put_decimal p h.1) (then (put_decimal q h.2) nothing))
put_rest (forms.Cow v w) h k = then (put_decimal v h.0) (then (put_decimal w h.1) nothing)
put_rest (forms.Command c) h k = put_command c h
put_rest (forms.Schedule ts) h k = put_turns ts k
put_rest forms.End h k = nothing

pub put_words : (f : ScriptLine) → IsWhole f → ArePut (form_words f)
put_words f h = then (put_first f) (put_rest f h.fits h.turns)
