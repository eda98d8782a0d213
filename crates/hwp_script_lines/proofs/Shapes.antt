-- The words of a line are printable, its shape fits them, and their numbers stand in place.
use Rattle.std.proofs.Common.{ℕ, ◌≡◌, ◌<◌, ◌≤◌, ◌^◌, nat_lt, ◌&&◌, ◌++◌, Bool, true, false, inl, inr, List, [], ◌∷◌, length, get_or, take, drop, decimal, codes, refl, sym, ap, subst, ◌∙◌, arith}
use Rattle.std.specs.Prelude.{All}
use Rattle.std.specs.Char.{digit_value}
use Rattle.std.specs.List.{join_with_byte}
use Rattle.std.specs.Str.Parse.{AllDigits}
use Rattle.std.proofs.lemmas.Bool.{and_parts}
use Rattle.std.proofs.lemmas.Bool.Decides.{nat_tests}
use Rattle.std.proofs.lemmas.Fmt.{decimal_is_IsNumeral}
use Rattle.std.proofs.lemmas.List.Elements.{All-nil, All-cons, All-push, All-append, All-from_recursion, All-same, All-weaker}
use Rattle.std.proofs.lemmas.List.Splits.{join_with_byte-slice_split}
use Rattle.hwp_script_words.specs.hwp_geom.Limits.{number, line_limit, frame_limit, file_limit, process_limit, thread_limit, page_limit, translation_limit}
use Rattle.hwp_script_words.specs.hwp_geom.Pairs.{Pairs}
use Rattle.hwp_script_words.specs.hwp_geom.declared.Kind.{Kind}
use Rattle.hwp_script_words.specs.hwp_geom.declared.Kind.TheVariants as kinds
use Rattle.hwp_script_words.specs.hwp_cec.Limits.{threshold_limit, window_limit}
use Rattle.hwp_script_words.specs.Kinds.{kind_text}
use Rattle.hwp_script_words.specs.Numbers.{IsNumberWord}
use Rattle.hwp_script_lines.specs.Numbers.{IsRegister, IsRegisterWord}
use Rattle.hwp_script_lines.specs.Grammar.{bit, page_words, is_newer, keyword, keyword_text, command_word, command_text, rest_words, handler_text, Fits, CommandFits, AreRestWords, AreCommandWords, AreRegisters, IsTurn, IsTurnWord, HasTurnShape, pieces_of, IsForm, IsShaped, IsBadNumber, IsOverLimit, IsPrintable, HasShape, HasCommandShape, HasRaiseShape, HaveNumbers, HaveCommandNumbers}
use Rattle.hwp_script_lines.specs.declared.script_line.ScriptLine.{ScriptLine}
use Rattle.hwp_script_lines.specs.declared.script_line.Backing.{Backing}
use Rattle.hwp_script_words.specs.declared.Command.{Command}
use Rattle.hwp_script_words.specs.declared.Go.{Go}
use Rattle.hwp_script_words.specs.declared.Until.{Until}
use Rattle.hwp_script_lines.specs.declared.keywords.Keyword.{Keyword}
use Rattle.hwp_script_lines.specs.declared.keywords.CommandWord.{CommandWord}
use Rattle.hwp_script_lines.specs.declared.script_line.ScriptLine.TheVariants as forms
use Rattle.hwp_script_words.specs.declared.Command.TheVariants as commands
use Rattle.hwp_script_lines.specs.declared.script_line.Backing.TheVariants as backings
use Rattle.hwp_script_words.specs.declared.Until.TheVariants as untils
use Rattle.hwp_script_lines.specs.declared.keywords.Keyword.TheVariants as keywords
use Rattle.hwp_script_lines.specs.declared.keywords.CommandWord.TheVariants as words
use Rattle.hwp_script_lines.proofs.CommandLaws.{bit_low, version_low, low, low_to, one, two, three, four, six}
use Rattle.hwp_script_lines.proofs.SentenceLaws.{first_words}
use Rattle.hwp_script_lines.proofs.TurnLaws.{turn_word, shape-turn}

-- a hex digit is printable
digit_printable : (b : ℕ) → digit_value b < 16 → IsPrintable b
digit_printable b h = (grind (arith, nat_tests), grind (arith, nat_tests))

digits_printable : (base : ℕ) → base ≤ 16 → (ds : List ℕ) → AllDigits base ds → All IsPrintable ds
digits_printable base low [] h = All-nil IsPrintable
digits_printable base low (d ∷ ds) h = All-cons IsPrintable d ds (digit_printable d (omega (arith, h.0))) (digits_printable base low ds h.1)

pub printable-decimal : (n : ℕ) → n < 2 ^ 64 → All IsPrintable (decimal n)
printable-decimal n h = digits_printable 10 (omega arith) (decimal n) (decimal_is_IsNumeral n h).0.1

-- whether all bytes are printable
abbrev are_printable : List ℕ → Bool
are_printable [] = true
are_printable (b ∷ bs) = (nat_lt 31 b && nat_lt b 127) && are_printable bs

byte_printable : (b : ℕ) → (nat_lt 31 b && nat_lt b 127) ≡ true → IsPrintable b
byte_printable b h = let parts = and_parts (nat_lt 31 b) (nat_lt b 127) h in (grind (arith, nat_tests), grind (arith, nat_tests))

-- a fixed word is printable, by `plain _ refl`
plain : (bs : List ℕ) → are_printable bs ≡ true → All IsPrintable bs
plain [] h = All-nil IsPrintable
plain (b ∷ bs) h =
    let parts = and_parts (nat_lt 31 b && nat_lt b 127) (are_printable bs) h in All-cons IsPrintable b bs (byte_printable b parts.0) (plain bs parts.1)

printable-keyword : (k : Keyword) → All IsPrintable (keyword_text k)
printable-keyword keywords.Hwp = plain (keyword_text keywords.Hwp) refl
printable-keyword keywords.Cpus = plain (keyword_text keywords.Cpus) refl
printable-keyword keywords.Frames = plain (keyword_text keywords.Frames) refl
printable-keyword keywords.Kernel = plain (keyword_text keywords.Kernel) refl
printable-keyword keywords.Recovery = plain (keyword_text keywords.Recovery) refl
printable-keyword keywords.Early = plain (keyword_text keywords.Early) refl
printable-keyword keywords.File = plain (keyword_text keywords.File) refl
printable-keyword keywords.Proc = plain (keyword_text keywords.Proc) refl
printable-keyword keywords.Guest = plain (keyword_text keywords.Guest) refl
printable-keyword keywords.Thread = plain (keyword_text keywords.Thread) refl
printable-keyword keywords.Page = plain (keyword_text keywords.Page) refl
printable-keyword keywords.Trans = plain (keyword_text keywords.Trans) refl
printable-keyword keywords.Cow = plain (keyword_text keywords.Cow) refl
printable-keyword keywords.Cpu = plain (keyword_text keywords.Cpu) refl
printable-keyword keywords.Schedule = plain (keyword_text keywords.Schedule) refl
printable-keyword keywords.End = plain (keyword_text keywords.End) refl
printable-keyword (keywords.Command words.Load) = plain (command_text words.Load) refl
printable-keyword (keywords.Command words.Fetch) = plain (command_text words.Fetch) refl
printable-keyword (keywords.Command words.KLoad) = plain (command_text words.KLoad) refl
printable-keyword (keywords.Command words.Store) = plain (command_text words.Store) refl
printable-keyword (keywords.Command words.Free) = plain (command_text words.Free) refl
printable-keyword (keywords.Command words.Drop) = plain (command_text words.Drop) refl
printable-keyword (keywords.Command words.Sync) = plain (command_text words.Sync) refl
printable-keyword (keywords.Command words.Out) = plain (command_text words.Out) refl
printable-keyword (keywords.Command words.Fsync) = plain (command_text words.Fsync) refl
printable-keyword (keywords.Command words.Open) = plain (command_text words.Open) refl
printable-keyword (keywords.Command words.Prctl) = plain (command_text words.Prctl) refl
printable-keyword (keywords.Command words.Bad) = plain (command_text words.Bad) refl
printable-keyword (keywords.Command words.Weak) = plain (command_text words.Weak) refl
printable-keyword (keywords.Command words.Scrub) = plain (command_text words.Scrub) refl
printable-keyword (keywords.Command words.Log) = plain (command_text words.Log) refl
printable-keyword (keywords.Command words.Raise) = plain (command_text words.Raise) refl
printable-keyword (keywords.Command words.Inject) = plain (command_text words.Inject) refl
printable-keyword (keywords.Command words.Soft) = plain (command_text words.Soft) refl
printable-keyword (keywords.Command words.Unpoison) = plain (command_text words.Unpoison) refl
printable-keyword (keywords.Command words.Watch) = plain (command_text words.Watch) refl
printable-keyword (keywords.Command words.Fork) = plain (command_text words.Fork) refl

printable-kind : (k : Kind) → All IsPrintable (kind_text k)
printable-kind kinds.LoadPte = plain (kind_text kinds.LoadPte) refl
printable-kind kinds.LoadCache = plain (kind_text kinds.LoadCache) refl
printable-kind kinds.LoadFrame = plain (kind_text kinds.LoadFrame) refl
printable-kind kinds.LoadAvail = plain (kind_text kinds.LoadAvail) refl
printable-kind kinds.LoadFree = plain (kind_text kinds.LoadFree) refl
printable-kind kinds.LoadBad = plain (kind_text kinds.LoadBad) refl
printable-kind kinds.LoadProc = plain (kind_text kinds.LoadProc) refl
printable-kind kinds.LoadPolicy = plain (kind_text kinds.LoadPolicy) refl
printable-kind kinds.LoadStop = plain (kind_text kinds.LoadStop) refl
printable-kind kinds.LoadCount = plain (kind_text kinds.LoadCount) refl
printable-kind kinds.Reserve = plain (kind_text kinds.Reserve) refl
printable-kind kinds.TakeBit = plain (kind_text kinds.TakeBit) refl
printable-kind kinds.GiveBit = plain (kind_text kinds.GiveBit) refl
printable-kind kinds.Unreserve = plain (kind_text kinds.Unreserve) refl
printable-kind kinds.Adopt = plain (kind_text kinds.Adopt) refl
printable-kind kinds.GetRef = plain (kind_text kinds.GetRef) refl
printable-kind kinds.PutRef = plain (kind_text kinds.PutRef) refl
printable-kind kinds.LockFrame = plain (kind_text kinds.LockFrame) refl
printable-kind kinds.UnlockFrame = plain (kind_text kinds.UnlockFrame) refl
printable-kind kinds.Retire = plain (kind_text kinds.Retire) refl
printable-kind kinds.Revive = plain (kind_text kinds.Revive) refl
printable-kind kinds.SetOwner = plain (kind_text kinds.SetOwner) refl
printable-kind kinds.LockPage = plain (kind_text kinds.LockPage) refl
printable-kind kinds.UnlockPage = plain (kind_text kinds.UnlockPage) refl
printable-kind kinds.SetPte = plain (kind_text kinds.SetPte) refl
printable-kind kinds.SetCache = plain (kind_text kinds.SetCache) refl
printable-kind kinds.Poison = plain (kind_text kinds.Poison) refl
printable-kind kinds.CountPoison = plain (kind_text kinds.CountPoison) refl
printable-kind kinds.Uncount = plain (kind_text kinds.Uncount) refl
printable-kind kinds.Spoil = plain (kind_text kinds.Spoil) refl
printable-kind kinds.Stop = plain (kind_text kinds.Stop) refl
printable-kind kinds.GiveUp = plain (kind_text kinds.GiveUp) refl
printable-kind kinds.Kill = plain (kind_text kinds.Kill) refl
printable-kind kinds.SetPolicy = plain (kind_text kinds.SetPolicy) refl
printable-kind kinds.Lose = plain (kind_text kinds.Lose) refl
printable-kind kinds.ReportLost = plain (kind_text kinds.ReportLost) refl

printable-handler : (h : Bool) → All IsPrintable (handler_text h)
printable-handler true = plain (handler_text true) refl
printable-handler false = plain (handler_text false) refl

printable-register : (w : List ℕ) (n : ℕ) → IsRegister w n → All IsPrintable w
printable-register w n (inl h) = All-same IsPrintable w (codes "0") h.0 (plain (codes "0") refl)
printable-register w n (inr h) =
    All-same IsPrintable w (codes "0x" ++ h.digits) h.same (All-append IsPrintable (codes "0x") h.digits (plain (codes "0x") refl) (digits_printable 16 (omega arith) h.digits h.numeral.1))

printable-turn_at : (c : ℕ) (u : Until) → c < 2 ^ 64 → All IsPrintable (join_with_byte 64 (pieces_of c u))
printable-turn_at c untils.One h = printable-decimal c h
printable-turn_at c untils.Command h = All-append IsPrintable (decimal c) (codes ".") (printable-decimal c h) (plain (codes ".") refl)
printable-turn_at c (untils.After k) h =
    All-append IsPrintable (decimal c) (64 ∷ kind_text k) (printable-decimal c h) (All-cons IsPrintable 64 (kind_text k) (omega arith, omega arith) (printable-kind k))

printable-turn : (w : List ℕ) → IsTurnWord w → All IsPrintable w
printable-turn w h =
    All-same IsPrintable w (join_with_byte 64 (pieces_of h.cpu h.until)) (sym (join_with_byte-slice_split 64 w) ∙ ap (join_with_byte 64) h.same) (printable-turn_at h.cpu h.until h.fits)

turn_words : (ws : List (List ℕ)) (ts : List Go) → Pairs IsTurn ws ts → All IsTurnWord ws
turn_words [] ts h = All-nil IsTurnWord
turn_words (w ∷ ws) [] h = absurd h
turn_words (w ∷ ws) (t ∷ ts) h = All-cons IsTurnWord w ws (turn_word w t h.0) (turn_words ws ts h.1)

registers : (ws : List (List ℕ)) (s a m : ℕ) → AreRegisters ws s a m → All IsRegisterWord ws
registers [] s a m h = absurd (omega (arith, h.three))
registers (u ∷ []) s a m h = absurd (omega (arith, h.three))
registers (u ∷ v ∷ []) s a m h = absurd (omega (arith, h.three))
registers (u ∷ v ∷ w ∷ []) s a m h = All-from_recursion IsRegisterWord (u ∷ v ∷ w ∷ []) ((s, h.status), ((a, h.addr), ((m, h.misc), tt)))
registers (u ∷ v ∷ w ∷ x ∷ ws) s a m h = absurd (omega (arith, h.three))

turns-some : (ws : List (List ℕ)) (ts : List Go) → Pairs IsTurn ws ts → 0 < length ts → 0 < length ws
turns-some [] [] h l = absurd (omega arith)
turns-some [] (t ∷ ts) h l = absurd h
turns-some (w ∷ ws) ts h l = omega arith

-- words that are equal to printable ones are printable
same_printable : (ws us : List (List ℕ)) → ws ≡ us → All (All IsPrintable) us → All (All IsPrintable) ws
same_printable ws us e h = All-same (All IsPrintable) ws us e h

numbers_printable : (ws : List (List ℕ)) → All IsNumberWord ws → All (All IsPrintable) ws
numbers_printable ws h = All-weaker IsNumberWord (All IsPrintable) (λ w n. All-same IsPrintable w (decimal n.0) n.1.digits (printable-decimal n.0 n.1.fits)) ws h

raise_first : (u : List ℕ) (us : List (List ℕ)) → HasRaiseShape (u ∷ us) → All IsPrintable u
raise_first u us (inl h) = All-same IsPrintable u (codes "user") h.1 (plain (codes "user") refl)
raise_first u us (inr (inl h)) = All-same IsPrintable u (codes "kernel") h.1 (plain (codes "kernel") refl)
raise_first u us (inr (inr h)) = All-same IsPrintable u (codes "nested") (ap (λ vs. get_or vs 0 []) h) (plain (codes "nested") refl)

raise_printable : (ws : List (List ℕ)) → All IsNumberWord (drop 1 ws) → HasRaiseShape ws → All (All IsPrintable) ws
raise_printable [] h shape = All-nil (All IsPrintable)
raise_printable (u ∷ us) h shape = All-cons (All IsPrintable) u us (raise_first u us shape) (numbers_printable us h)

command_printable : (w : CommandWord) (ws : List (List ℕ)) → HaveCommandNumbers w ws → HasCommandShape w ws → All (All IsPrintable) ws
command_printable words.Log ws h shape = All-weaker IsRegisterWord (All IsPrintable) (λ w n. printable-register w n.0 n.1) ws h
command_printable words.Raise ws h shape = raise_printable ws h shape
command_printable words.Load ws h shape = numbers_printable ws h
command_printable words.Fetch ws h shape = numbers_printable ws h
command_printable words.KLoad ws h shape = numbers_printable ws h
command_printable words.Store ws h shape = numbers_printable ws h
command_printable words.Free ws h shape = numbers_printable ws h
command_printable words.Drop ws h shape = numbers_printable ws h
command_printable words.Sync ws h shape = numbers_printable ws h
command_printable words.Out ws h shape = numbers_printable ws h
command_printable words.Fsync ws h shape = numbers_printable ws h
command_printable words.Open ws h shape = numbers_printable ws h
command_printable words.Prctl ws h shape = numbers_printable ws h
command_printable words.Bad ws h shape = numbers_printable ws h
command_printable words.Weak ws h shape = numbers_printable ws h
command_printable words.Scrub ws h shape = numbers_printable ws h
command_printable words.Inject ws h shape = numbers_printable ws h
command_printable words.Soft ws h shape = numbers_printable ws h
command_printable words.Unpoison ws h shape = numbers_printable ws h
command_printable words.Watch ws h shape = numbers_printable ws h
command_printable words.Fork ws h shape = numbers_printable ws h

-- the words of a command have its shape, and their numbers stand in place
command_shaped : (ws : List (List ℕ)) (c : Command) → CommandFits c → AreCommandWords ws c → HaveCommandNumbers (command_word c) ws × HasCommandShape (command_word c) ws
command_shaped ws (commands.Load t v l) h e =
    (three ws t.0 v.0 l (low t.0 thread_limit h.0 (omega arith), low v.0 translation_limit h.1 (omega arith), low l line_limit h.2 (omega arith), e), ap length e)
command_shaped ws (commands.Fetch t v l) h e =
    (three ws t.0 v.0 l (low t.0 thread_limit h.0 (omega arith), low v.0 translation_limit h.1 (omega arith), low l line_limit h.2 (omega arith), e), ap length e)
command_shaped ws (commands.KLoad t v l) h e =
    (three ws t.0 v.0 l (low t.0 thread_limit h.0 (omega arith), low v.0 translation_limit h.1 (omega arith), low l line_limit h.2 (omega arith), e), ap length e)
command_shaped ws (commands.Store t v l x) h e =
    (four ws t.0 v.0 l x (low t.0 thread_limit h.0.0 (omega arith), low v.0 translation_limit h.0.1 (omega arith), low l line_limit h.0.2 (omega arith), h.1, e), ap length e)
command_shaped ws (commands.Free v) h e = (one ws v.0 (low v.0 translation_limit h (omega arith), e), ap length e)
command_shaped ws (commands.Drop q) h e = (one ws q.0 (low q.0 page_limit h (omega arith), e), ap length e)
command_shaped ws (commands.Sync q) h e = (one ws q.0 (low q.0 page_limit h (omega arith), e), ap length e)
command_shaped ws (commands.Out q) h e = (one ws q.0 (low q.0 page_limit h (omega arith), e), ap length e)
command_shaped ws (commands.Fsync n) h e = (one ws n.0 (low n.0 file_limit h (omega arith), e), ap length e)
command_shaped ws (commands.Open n) h e = (one ws n.0 (low n.0 file_limit h (omega arith), e), ap length e)
command_shaped ws (commands.Inject f) h e = (one ws f.0 (low f.0 frame_limit h (omega arith), e), ap length e)
command_shaped ws (commands.Soft f) h e = (one ws f.0 (low f.0 frame_limit h (omega arith), e), ap length e)
command_shaped ws (commands.Unpoison f) h e = (one ws f.0 (low f.0 frame_limit h (omega arith), e), ap length e)
command_shaped ws (commands.Bad f l) h e = (two ws f.0 l (low f.0 frame_limit h.0 (omega arith), low l line_limit h.1 (omega arith), e), ap length e)
command_shaped ws (commands.Weak f l) h e = (two ws f.0 l (low f.0 frame_limit h.0 (omega arith), low l line_limit h.1 (omega arith), e), ap length e)
command_shaped ws (commands.Scrub a b) h e =
    (two ws a.0 b.0 (low a.0 frame_limit (omega (arith, h.0, h.1)) (omega arith), low b.0 frame_limit h.1 (omega arith), e), ap length e)
command_shaped ws (commands.Watch t w) h e =
    (two ws t w (low_to t threshold_limit h.1 (omega arith), low_to w window_limit h.3 (omega arith), e), ap length e)
command_shaped ws (commands.Fork t p) h e =
    (two ws t.0 p.0 (low t.0 thread_limit h.0 (omega arith), low p.0 process_limit h.1 (omega arith), e), ap length e)
command_shaped ws (commands.Prctl t args) h e =
    (six ws t.0 args.operation args.arg2 args.arg3 args.arg4 args.arg5 (low t.0 thread_limit h.0 (omega arith), h.1, h.2, h.3, h.4, h.5, e), ap length e)
command_shaped ws (commands.Log s a m) h e = (registers ws s a m e, e.three)
command_shaped ws (commands.RaiseUser t r p) h e =
    (three (drop 1 ws) t.0 (bit r) (bit p) (low t.0 thread_limit h (omega arith), bit_low r, bit_low p, ap (drop 1) e), inl (ap length e, ap (λ us. get_or us 0 []) e))
command_shaped ws (commands.RaiseKernel r p) h e =
    (two (drop 1 ws) (bit r) (bit p) (bit_low r, bit_low p, ap (drop 1) e), inr (inl (ap length e, ap (λ us. get_or us 0 []) e)))
command_shaped ws commands.RaiseNested h e = (All-same IsNumberWord (drop 1 ws) [] (ap (drop 1) e) (All-nil IsNumberWord), inr (inr e))

-- the words of a line behind its first
record AreRest (k : Keyword) (ws : List (List ℕ)) : Type 0 where
  printable : All (All IsPrintable) ws
  shape : HasShape k ws
  numbers : HaveNumbers k ws

number_at : (ws : List (List ℕ)) (i n : ℕ) → n < 2 ^ 64 → get_or ws i [] ≡ decimal n → IsNumberWord (get_or ws i [])
number_at ws i n h e = (n, record { fits = h; digits = e })

-- the words of a page, and `locked` behind words, are printable
page_printable : (q : ℕ) (b : Backing) → Fits (forms.Page q b false) → All (All IsPrintable) (page_words q b)
page_printable q backings.Anon h = All-from_recursion (All IsPrintable) (page_words q backings.Anon) (printable-decimal q h, (plain (codes "anon") refl, tt))
page_printable q (backings.File n x) h =
    All-from_recursion (All IsPrintable) (page_words q (backings.File n x))
    (printable-decimal q h.0, (plain (codes "file") refl, (printable-decimal n h.1, (plain (codes "fill") refl, (printable-decimal x h.2, tt)))))

locked_printable : (ws : List (List ℕ)) → All (All IsPrintable) ws → All (All IsPrintable) (ws ++ codes "locked" ∷ [])
locked_printable ws h = All-push (All IsPrintable) ws (codes "locked") h (plain (codes "locked") refl)

form_rest : (ws : List (List ℕ)) (f : ScriptLine) → Fits f → AreRestWords ws f → AreRest (keyword f) ws
form_rest ws (forms.Header v) h e = record {
  printable = same_printable ws (rest_words (forms.Header v)) e (All-from_recursion (All IsPrintable) (rest_words (forms.Header v)) (printable-decimal (number v) (version_low v), tt));
  shape = (v, e);
  numbers = tt;
}
form_rest ws forms.End h e =
    record { printable = same_printable ws (rest_words forms.End) e (All-nil (All IsPrintable)); shape = ap length e; numbers = tt }
form_rest ws (forms.Cpus n) h e = let all = one ws n (h, e) in record { printable = numbers_printable ws all; shape = ap length e; numbers = all }
form_rest ws (forms.Frames n) h e = let all = one ws n (h, e) in record { printable = numbers_printable ws all; shape = ap length e; numbers = all }
form_rest ws (forms.Kernel n) h e = let all = one ws n (h, e) in record { printable = numbers_printable ws all; shape = ap length e; numbers = all }
form_rest ws (forms.Recovery n) h e = let all = one ws n (h, e) in record { printable = numbers_printable ws all; shape = ap length e; numbers = all }
form_rest ws (forms.Early n) h e = let all = one ws n (h, e) in record { printable = numbers_printable ws all; shape = ap length e; numbers = all }
form_rest ws (forms.File n) h e = let all = one ws n (h, e) in record { printable = numbers_printable ws all; shape = ap length e; numbers = all }
form_rest ws (forms.Proc n) h e = let all = one ws n (h, e) in record { printable = numbers_printable ws all; shape = ap length e; numbers = all }
form_rest ws (forms.Guest n) h e = let all = one ws n (h, e) in record { printable = numbers_printable ws all; shape = ap length e; numbers = all }
form_rest ws (forms.Cpu n) h e = let all = one ws n (h, e) in record { printable = numbers_printable ws all; shape = ap length e; numbers = all }
form_rest ws (forms.Trans m n p) h e =
    let all = three ws m n p (h.0, h.1, h.2, e) in record { printable = numbers_printable ws all; shape = ap length e; numbers = all }
form_rest ws (forms.Cow m n) h e =
    let all = two ws m n (h.0, h.1, e) in record { printable = numbers_printable ws all; shape = ap length e; numbers = all }
form_rest ws (forms.Thread m n p b) h e = record {
  printable = same_printable ws (rest_words (forms.Thread m n p b)) e (All-from_recursion (All IsPrintable) (rest_words (forms.Thread m n p b)) (printable-decimal m h.0, (printable-decimal n h.1, (printable-decimal p h.2, (printable-handler b, tt)))));
  shape = (ap length e, (b, ap (λ us. get_or us 3 []) e));
  numbers = three (take 3 ws) m n p (h.0, h.1, h.2, ap (take 3) e);
}
form_rest ws (forms.Page q backings.Anon false) h e =
    let two : length ws ≡ 2 = ap length e in record {
      printable = same_printable ws (page_words q backings.Anon) e (page_printable q backings.Anon h);
      shape = inl (inl (two, ap (λ us. get_or us 1 []) e));
      numbers = (number_at ws 0 q h (ap (λ us. get_or us 0 []) e), λ more. absurd (omega (arith, two, more)));
    }
form_rest ws (forms.Page q backings.Anon true) h e =
    let three : length ws ≡ 3 = ap length e in record {
      printable = same_printable ws (page_words q backings.Anon ++ codes "locked" ∷ []) e (locked_printable (page_words q backings.Anon) (page_printable q backings.Anon h));
      shape = inr (inl (three, ap (λ us. get_or us 1 []) e, ap (λ us. get_or us 2 []) e));
      numbers = (number_at ws 0 q h (ap (λ us. get_or us 0 []) e), λ more. absurd (omega (arith, three, more)));
    }
form_rest ws (forms.Page q (backings.File n x) false) h e = record {
  printable = same_printable ws (page_words q (backings.File n x)) e (page_printable q (backings.File n x) h);
  shape = inl (inr (ap length e, ap (λ us. get_or us 1 []) e, ap (λ us. get_or us 3 []) e));
  numbers = (number_at ws 0 q h.0 (ap (λ us. get_or us 0 []) e), λ more. (number_at ws 2 n h.1 (ap (λ us. get_or us 2 []) e), number_at ws 4 x h.2 (ap (λ us. get_or us 4 []) e)));
}
form_rest ws (forms.Page q (backings.File n x) true) h e = record {
  printable = same_printable ws (page_words q (backings.File n x) ++ codes "locked" ∷ []) e (locked_printable (page_words q (backings.File n x)) (page_printable q (backings.File n x) h));
  shape = inr (inr (ap length e, ap (λ us. get_or us 1 []) e, ap (λ us. get_or us 3 []) e, ap (λ us. get_or us 5 []) e));
  numbers = (number_at ws 0 q h.0 (ap (λ us. get_or us 0 []) e), λ more. (number_at ws 2 n h.1 (ap (λ us. get_or us 2 []) e), number_at ws 4 x h.2 (ap (λ us. get_or us 4 []) e)));
}
form_rest ws (forms.Command c) h e =
    let both = command_shaped ws c h e in record { printable = command_printable (command_word c) ws both.0 both.1; shape = both.1; numbers = both.0 }
form_rest ws (forms.Schedule ts) h e =
    let all = turn_words ws ts e in record {
      printable = All-weaker IsTurnWord (All IsPrintable) printable-turn ws all;
      shape = (turns-some ws ts e h, All-weaker IsTurnWord HasTurnShape shape-turn ws all);
      numbers = all;
    }

-- the words of a line have its shape, and their numbers stand in place
pub record IsWhole (ws : List (List ℕ)) : Type 0 where
  pub shaped : IsShaped ws
  pub numbers : HaveNumbers shaped.first shaped.rest

pub whole : (ws : List (List ℕ)) (f : ScriptLine) → IsForm ws f → IsWhole ws
whole ws f h =
    let rest = form_rest h.rest f h.is.fits h.is.same in record {
      shaped = record {
        printable = All-same (All IsPrintable) ws (keyword_text (keyword f) ∷ h.rest) h.same (All-cons (All IsPrintable) (keyword_text (keyword f)) h.rest (printable-keyword (keyword f)) rest.printable);
        first = keyword f;
        rest = h.rest;
        same = h.same;
        shape = rest.shape;
      };
      numbers = rest.numbers;
    }

-- the numbers of words of one shape stand in place as those of another
numbers_of : (ws : List (List ℕ)) (h k : IsShaped ws) → HaveNumbers h.first h.rest → HaveNumbers k.first k.rest
numbers_of ws h k numbers =
    let both = first_words k.first h.first ws k.rest h.rest k.same h.same in
    subst (λ us. HaveNumbers k.first us) both.1 (subst (λ j. HaveNumbers j h.rest) both.0 numbers)

-- words of one shape have it in one version
same_version : (ws : List (List ℕ)) (h k : IsShaped ws) → is_newer h.first (length h.rest) ≡ is_newer k.first (length k.rest)
same_version ws h k =
    let both = first_words k.first h.first ws k.rest h.rest k.same h.same in
    ap (λ j. is_newer j (length h.rest)) both.0 ∙ ap (λ us. is_newer k.first (length us)) both.1

pub bad_once : (ws : List (List ℕ)) (m n : Bool) → IsBadNumber ws m → IsBadNumber ws n → m ≡ n
bad_once ws m n h k = h.version ∙ same_version ws h.shaped k.shaped ∙ sym k.version

pub over_once : (ws : List (List ℕ)) (m n : Bool) → IsOverLimit ws m → IsOverLimit ws n → m ≡ n
over_once ws m n h k = h.version ∙ same_version ws h.shaped k.shaped ∙ sym k.version

pub bad_form : (ws : List (List ℕ)) (newer : Bool) (f : ScriptLine) → IsForm ws f → IsBadNumber ws newer → ⊥
bad_form ws newer f h k = let w = whole ws f h in k.none (numbers_of ws w.shaped k.shaped w.numbers)

pub bad_over : (ws : List (List ℕ)) (m n : Bool) → IsBadNumber ws m → IsOverLimit ws n → ⊥
bad_over ws m n h k = h.none (numbers_of ws k.shaped h.shaped k.numbers)
