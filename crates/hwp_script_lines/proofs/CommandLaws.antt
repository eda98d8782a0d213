-- The command of a first word and of the words behind it: at most one, and none where a number is outside its range.
use Rattle.std.proofs.Common.{ℕ, ◌≡◌, ◌<◌, ◌≤◌, ◌^◌, ◌==◌, inl, inr, Bool, true, false, cond, List, [], ◌∷◌, length, get_or, drop, map, Bor, decimal, codes, refl, sym, ap, subst, ◌∙◌, arith}
use Rattle.std.specs.Prelude.{All, ◌⊎◌}
use Rattle.std.specs.Str.Parse.{digits_value}
use Rattle.std.proofs.lemmas.Fmt.{decimal_is_IsNumeral}
use Rattle.std.proofs.lemmas.List.{get_or-map, length-map}
use Rattle.std.proofs.lemmas.List.Elements.{All-from_recursion, All-same, All-get_or}
use Rattle.hwp_script_words.specs.hwp_geom.Limits.{number, line_limit, frame_limit, file_limit, process_limit, thread_limit, page_limit, translation_limit}
use Rattle.hwp_script_words.specs.hwp_geom.declared.Version.{Version}
use Rattle.hwp_script_words.specs.hwp_geom.declared.Version.TheVariants as versions
use Rattle.hwp_script_words.specs.hwp_cec.Limits.{threshold_limit, window_limit}
use Rattle.hwp_script_words.specs.Numbers.{IsNumber, IsNumberWord}
use Rattle.hwp_script_lines.specs.Numbers.{IsRegister}
use Rattle.hwp_script_lines.specs.Grammar.{bit, command_word, CommandFits, AreCommandWords, IsCommand, IsCommandOver, HaveNumbers, HasShape, handler_text, thread_keyword}
use Rattle.hwp_script_words.specs.declared.Command.{Command}
use Rattle.hwp_script_words.specs.declared.Command.TheVariants as commands
use Rattle.hwp_script_lines.specs.declared.keywords.CommandWord.{CommandWord}
use Rattle.hwp_script_lines.specs.declared.keywords.CommandWord.TheVariants as words

-- the number that the i-th word writes, and the value of a register word
abbrev pub value : List (List ℕ) → ℕ → ℕ
value ws i = digits_value 10 (get_or ws i [])

pub value_is : (ws : List (List ℕ)) (i n : ℕ) → n < 2 ^ 64 → get_or ws i [] ≡ decimal n → value ws i ≡ n
value_is ws i n h e = ap (digits_value 10) e ∙ (decimal_is_IsNumeral n h).1

abbrev register_value : List ℕ → ℕ
register_value w = digits_value 16 (drop 2 w)

register_is : (w : List ℕ) (n : ℕ) → IsRegister w n → register_value w ≡ n
register_is w n (inl h) = ap (λ v. digits_value 16 (drop 2 v)) h.0 ∙ sym h.1
register_is w n (inr h) = ap (λ v. digits_value 16 (drop 2 v)) h.same ∙ sym h.value

-- a number below one of the limits
pub low : (n limit : ℕ) → n < limit → limit ≤ 2 ^ 16 → n < 2 ^ 64
low n limit h k = omega arith

-- and a number up to one
pub low_to : (n limit : ℕ) → n ≤ limit → limit ≤ 2 ^ 16 → n < 2 ^ 64
low_to n limit h k = omega arith

bit_found : (b : Bool) (n : ℕ) → n ≡ bit b → (n == 1) ≡ b
bit_found true n e = rw e refl
bit_found false n e = rw e refl

pub bit_low : (b : Bool) → bit b < 2 ^ 64
bit_low true = omega arith
bit_low false = omega arith

pub version_low : (v : Version) → number v < 2 ^ 64
version_low versions.One = omega arith
version_low versions.Two = omega arith

-- the command of a first word and the words behind it
abbrev pub command_at : CommandWord → List (List ℕ) → Command
command_at words.Load ws = commands.Load (record { 0 = value ws 0 }) (record { 0 = value ws 1 }) (value ws 2)
command_at words.Fetch ws = commands.Fetch (record { 0 = value ws 0 }) (record { 0 = value ws 1 }) (value ws 2)
command_at words.KLoad ws = commands.KLoad (record { 0 = value ws 0 }) (record { 0 = value ws 1 }) (value ws 2)
command_at words.Store ws = commands.Store (record { 0 = value ws 0 }) (record { 0 = value ws 1 }) (value ws 2) (value ws 3)
command_at words.Free ws = commands.Free (record { 0 = value ws 0 })
command_at words.Drop ws = commands.Drop (record { 0 = value ws 0 })
command_at words.Sync ws = commands.Sync (record { 0 = value ws 0 })
command_at words.Out ws = commands.Out (record { 0 = value ws 0 })
command_at words.Fsync ws = commands.Fsync (record { 0 = value ws 0 })
command_at words.Open ws = commands.Open (record { 0 = value ws 0 })
command_at words.Bad ws = commands.Bad (record { 0 = value ws 0 }) (value ws 1)
command_at words.Weak ws = commands.Weak (record { 0 = value ws 0 }) (value ws 1)
command_at words.Scrub ws = commands.Scrub (record { 0 = value ws 0 }) (record { 0 = value ws 1 })
command_at words.Inject ws = commands.Inject (record { 0 = value ws 0 })
command_at words.Soft ws = commands.Soft (record { 0 = value ws 0 })
command_at words.Unpoison ws = commands.Unpoison (record { 0 = value ws 0 })
command_at words.Watch ws = commands.Watch (value ws 0) (value ws 1)
command_at words.Fork ws = commands.Fork (record { 0 = value ws 0 }) (record { 0 = value ws 1 })
command_at words.Prctl ws = commands.Prctl (record { 0 = value ws 0 }) (record { operation = value ws 1; arg2 = value ws 2; arg3 = value ws 3; arg4 = value ws 4; arg5 = value ws 5 })
command_at words.Log ws = commands.Log (register_value (get_or ws 0 [])) (register_value (get_or ws 1 [])) (register_value (get_or ws 2 []))
command_at words.Raise ws = cond (length ws == 4) (commands.RaiseUser (record { 0 = value ws 1 }) (value ws 2 == 1) (value ws 3 == 1)) (cond (length ws == 3) (commands.RaiseKernel (value ws 1 == 1) (value ws 2 == 1)) commands.RaiseNested)

pub command_found : (ws : List (List ℕ)) (c : Command) → CommandFits c → AreCommandWords ws c → command_at (command_word c) ws ≡ c
command_found ws (commands.Load t v l) h e =
    rw (
      value_is ws 0 t.0 (low t.0 thread_limit h.0 (omega arith)) (ap (λ us. get_or us 0 []) e),
      value_is ws 1 v.0 (low v.0 translation_limit h.1 (omega arith)) (ap (λ us. get_or us 1 []) e),
      value_is ws 2 l (low l line_limit h.2 (omega arith)) (ap (λ us. get_or us 2 []) e),
    ) refl
command_found ws (commands.Fetch t v l) h e =
    rw (
      value_is ws 0 t.0 (low t.0 thread_limit h.0 (omega arith)) (ap (λ us. get_or us 0 []) e),
      value_is ws 1 v.0 (low v.0 translation_limit h.1 (omega arith)) (ap (λ us. get_or us 1 []) e),
      value_is ws 2 l (low l line_limit h.2 (omega arith)) (ap (λ us. get_or us 2 []) e),
    ) refl
command_found ws (commands.KLoad t v l) h e =
    rw (
      value_is ws 0 t.0 (low t.0 thread_limit h.0 (omega arith)) (ap (λ us. get_or us 0 []) e),
      value_is ws 1 v.0 (low v.0 translation_limit h.1 (omega arith)) (ap (λ us. get_or us 1 []) e),
      value_is ws 2 l (low l line_limit h.2 (omega arith)) (ap (λ us. get_or us 2 []) e),
    ) refl
command_found ws (commands.Store t v l x) h e =
    rw (
      value_is ws 0 t.0 (low t.0 thread_limit h.0.0 (omega arith)) (ap (λ us. get_or us 0 []) e),
      value_is ws 1 v.0 (low v.0 translation_limit h.0.1 (omega arith)) (ap (λ us. get_or us 1 []) e),
      value_is ws 2 l (low l line_limit h.0.2 (omega arith)) (ap (λ us. get_or us 2 []) e),
      value_is ws 3 x (h.1) (ap (λ us. get_or us 3 []) e),
    ) refl
command_found ws (commands.Free v) h e =
    rw (value_is ws 0 v.0 (low v.0 translation_limit h (omega arith)) (ap (λ us. get_or us 0 []) e)) refl
command_found ws (commands.Drop q) h e =
    rw (value_is ws 0 q.0 (low q.0 page_limit h (omega arith)) (ap (λ us. get_or us 0 []) e)) refl
command_found ws (commands.Sync q) h e =
    rw (value_is ws 0 q.0 (low q.0 page_limit h (omega arith)) (ap (λ us. get_or us 0 []) e)) refl
command_found ws (commands.Out q) h e =
    rw (value_is ws 0 q.0 (low q.0 page_limit h (omega arith)) (ap (λ us. get_or us 0 []) e)) refl
command_found ws (commands.Fsync n) h e =
    rw (value_is ws 0 n.0 (low n.0 file_limit h (omega arith)) (ap (λ us. get_or us 0 []) e)) refl
command_found ws (commands.Open n) h e =
    rw (value_is ws 0 n.0 (low n.0 file_limit h (omega arith)) (ap (λ us. get_or us 0 []) e)) refl
command_found ws (commands.Inject f) h e =
    rw (value_is ws 0 f.0 (low f.0 frame_limit h (omega arith)) (ap (λ us. get_or us 0 []) e)) refl
command_found ws (commands.Soft f) h e =
    rw (value_is ws 0 f.0 (low f.0 frame_limit h (omega arith)) (ap (λ us. get_or us 0 []) e)) refl
command_found ws (commands.Unpoison f) h e =
    rw (value_is ws 0 f.0 (low f.0 frame_limit h (omega arith)) (ap (λ us. get_or us 0 []) e)) refl
command_found ws (commands.Bad f l) h e =
    rw (
      value_is ws 0 f.0 (low f.0 frame_limit h.0 (omega arith)) (ap (λ us. get_or us 0 []) e),
      value_is ws 1 l (low l line_limit h.1 (omega arith)) (ap (λ us. get_or us 1 []) e),
    ) refl
command_found ws (commands.Weak f l) h e =
    rw (
      value_is ws 0 f.0 (low f.0 frame_limit h.0 (omega arith)) (ap (λ us. get_or us 0 []) e),
      value_is ws 1 l (low l line_limit h.1 (omega arith)) (ap (λ us. get_or us 1 []) e),
    ) refl
command_found ws (commands.Scrub a b) h e =
    rw (
      value_is ws 0 a.0 (low a.0 frame_limit (omega (arith, h.0, h.1)) (omega arith)) (ap (λ us. get_or us 0 []) e),
      value_is ws 1 b.0 (low b.0 frame_limit h.1 (omega arith)) (ap (λ us. get_or us 1 []) e),
    ) refl
command_found ws (commands.Watch t w) h e =
    rw (
      value_is ws 0 t (low_to t threshold_limit h.1 (omega arith)) (ap (λ us. get_or us 0 []) e),
      value_is ws 1 w (low_to w window_limit h.3 (omega arith)) (ap (λ us. get_or us 1 []) e),
    ) refl
command_found ws (commands.Fork t p) h e =
    rw (
      value_is ws 0 t.0 (low t.0 thread_limit h.0 (omega arith)) (ap (λ us. get_or us 0 []) e),
      value_is ws 1 p.0 (low p.0 process_limit h.1 (omega arith)) (ap (λ us. get_or us 1 []) e),
    ) refl
command_found ws (commands.Prctl t args) h e =
    rw (
      value_is ws 0 t.0 (low t.0 thread_limit h.0 (omega arith)) (ap (λ us. get_or us 0 []) e),
      value_is ws 1 args.operation (h.1) (ap (λ us. get_or us 1 []) e),
      value_is ws 2 args.arg2 (h.2) (ap (λ us. get_or us 2 []) e),
      value_is ws 3 args.arg3 (h.3) (ap (λ us. get_or us 3 []) e),
      value_is ws 4 args.arg4 (h.4) (ap (λ us. get_or us 4 []) e),
      value_is ws 5 args.arg5 (h.5) (ap (λ us. get_or us 5 []) e),
    ) refl
command_found ws (commands.Log s a m) h e =
    rw (register_is (get_or ws 0 []) s e.status, register_is (get_or ws 1 []) a e.addr, register_is (get_or ws 2 []) m e.misc) refl
command_found ws (commands.RaiseUser t r p) h e =
    let many : length ws ≡ 4 = ap length e in
    let first : value ws 1 ≡ t.0 = value_is ws 1 t.0 (low t.0 thread_limit h (omega arith)) (ap (λ us. get_or us 1 []) e) in
    let second : (value ws 2 == 1) ≡ r = bit_found r (value ws 2) (value_is ws 2 (bit r) (bit_low r) (ap (λ us. get_or us 2 []) e)) in
    let third : (value ws 3 == 1) ≡ p = bit_found p (value ws 3) (value_is ws 3 (bit p) (bit_low p) (ap (λ us. get_or us 3 []) e)) in
    rw (many, first, second, third) refl
command_found ws (commands.RaiseKernel r p) h e =
    let many : length ws ≡ 3 = ap length e in
    let first : (value ws 1 == 1) ≡ r = bit_found r (value ws 1) (value_is ws 1 (bit r) (bit_low r) (ap (λ us. get_or us 1 []) e)) in
    let second : (value ws 2 == 1) ≡ p = bit_found p (value ws 2) (value_is ws 2 (bit p) (bit_low p) (ap (λ us. get_or us 2 []) e)) in
    rw (many, first, second) refl
command_found ws commands.RaiseNested h e = let many : length ws ≡ 1 = ap length e in rw many refl

-- words of which no command is made that fits are no command
pub unfit : (w : CommandWord) (ws : List (List ℕ)) → (CommandFits (command_at w ws) → ⊥) → (c : Command) → IsCommand w ws c → ⊥
unfit w ws none c h =
    let same : command_at w ws ≡ c = ap (λ v. command_at v ws) (sym h.kind) ∙ command_found ws c h.fits h.same in
    none (subst CommandFits (sym same) h.fits)

-- words that are numbers
number_word : (n : ℕ) → n < 2 ^ 64 → IsNumberWord (decimal n)
number_word n h = (n, record { fits = h; digits = refl })

same_numbers : (ws us : List (List ℕ)) → ws ≡ us → All IsNumberWord us → All IsNumberWord ws
same_numbers ws us e h = All-same IsNumberWord ws us e h

pub one : (ws : List (List ℕ)) (m : ℕ) → (m < 2 ^ 64) × (ws ≡ decimal m ∷ []) → All IsNumberWord ws
one ws m h = same_numbers ws (decimal m ∷ []) h.1 (All-from_recursion IsNumberWord (decimal m ∷ []) (number_word m h.0, tt))

pub two : (ws : List (List ℕ)) (m n : ℕ) → (m < 2 ^ 64) × (n < 2 ^ 64) × (ws ≡ decimal m ∷ decimal n ∷ []) → All IsNumberWord ws
two ws m n h =
    same_numbers ws (decimal m ∷ decimal n ∷ []) h.2 (All-from_recursion IsNumberWord (decimal m ∷ decimal n ∷ []) (number_word m h.0, (number_word n h.1, tt)))

pub three : (ws : List (List ℕ)) (m n p : ℕ) → (m < 2 ^ 64) × (n < 2 ^ 64) × (p < 2 ^ 64) × (ws ≡ decimal m ∷ decimal n ∷ decimal p ∷ []) → All IsNumberWord ws
three ws m n p h =
    same_numbers ws (decimal m ∷ decimal n ∷ decimal p ∷ []) h.3
    (All-from_recursion IsNumberWord (decimal m ∷ decimal n ∷ decimal p ∷ []) (number_word m h.0, (number_word n h.1, (number_word p h.2, tt))))

pub four : (ws : List (List ℕ)) (m n p q : ℕ) → (m < 2 ^ 64) × (n < 2 ^ 64) × (p < 2 ^ 64) × (q < 2 ^ 64) × (ws ≡ decimal m ∷ decimal n ∷ decimal p ∷ decimal q ∷ []) → All IsNumberWord ws
four ws m n p q h =
    same_numbers ws (decimal m ∷ decimal n ∷ decimal p ∷ decimal q ∷ []) h.4
    (All-from_recursion IsNumberWord (decimal m ∷ decimal n ∷ decimal p ∷ decimal q ∷ []) (number_word m h.0, (number_word n h.1, (number_word p h.2, (number_word q h.3, tt)))))

pub six : (ws : List (List ℕ)) (m n p q r s : ℕ)
    → (m < 2 ^ 64) × (n < 2 ^ 64) × (p < 2 ^ 64) × (q < 2 ^ 64) × (r < 2 ^ 64) × (s < 2 ^ 64) × (ws ≡ decimal m ∷ decimal n ∷ decimal p ∷ decimal q ∷ decimal r ∷ decimal s ∷ [])
    → All IsNumberWord ws
six ws m n p q r s h =
    same_numbers ws (decimal m ∷ decimal n ∷ decimal p ∷ decimal q ∷ decimal r ∷ decimal s ∷ []) h.6
    (All-from_recursion IsNumberWord (decimal m ∷ decimal n ∷ decimal p ∷ decimal q ∷ decimal r ∷ decimal s ∷ [])
    (number_word m h.0, (number_word n h.1, (number_word p h.2, (number_word q h.3, (number_word r h.4, (number_word s h.5, tt)))))))

past : (x m limit : ℕ) → x ≡ m → limit ≤ m → x < limit → ⊥
past x m limit e h k = omega arith

-- where its first three words are no numbers, the numbers of a thread don't stand in place
no_thread : (ws : List (Bor (List ℕ))) (d : Bor (List ℕ)) → length ws ≡ 4
    → ((m n p : ℕ) → IsNumber (get_or ws 0 d).now m → IsNumber (get_or ws 1 d).now n → IsNumber (get_or ws 2 d).now p → ⊥)
    → HaveNumbers thread_keyword (map (λ w. w.now) ws) → ⊥
no_thread [] d l none h = absurd (omega (arith, l))
no_thread (t ∷ []) d l none h = absurd (omega (arith, l))
no_thread (t ∷ p ∷ []) d l none h = absurd (omega (arith, l))
no_thread (t ∷ p ∷ c ∷ us) d l none h =
    let at = λ (i : ℕ) (k : i < 3). All-get_or IsNumberWord (t.now ∷ p.now ∷ c.now ∷ []) i [] k h in
    let a = at 0 (omega arith) in let b = at 1 (omega arith) in let e = at 2 (omega arith) in none a.0 b.0 e.0 a.1 b.1 e.1

-- a thread whose last word says whether it has a handler, where its first three words are no numbers
pub bad_thread : (ws : List (Bor (List ℕ))) (d : Bor (List ℕ)) (handler : Bool) → length ws ≡ 4 → (get_or ws 3 d).now ≡ handler_text handler
    → ((m n p : ℕ) → IsNumber (get_or ws 0 d).now m → IsNumber (get_or ws 1 d).now n → IsNumber (get_or ws 2 d).now p → ⊥)
    → HasShape thread_keyword (map (λ w. w.now) ws) × (HaveNumbers thread_keyword (map (λ w. w.now) ws) → ⊥)
bad_thread ws d handler l e none = ((rw length-map l, (handler, get_or-map (λ w. w.now) ws 3 d [] (omega arith) ∙ e)), no_thread ws d l none)

not_bit : (b : Bool) (n : ℕ) → n ≡ bit b → 1 < n → ⊥
not_bit true n e h = omega arith
not_bit false n e h = omega arith

bits_out : (n p : ℕ) (r x : Bool) → n ≡ bit r → p ≡ bit x → (1 < n) ⊎ (1 < p) → ⊥
bits_out n p r x a b (inl e) = not_bit r n a e
bits_out n p r x a b (inr e) = not_bit x p b e

user_out : (t m n p : ℕ) (r x : Bool) → m ≡ t → n ≡ bit r → p ≡ bit x → t < thread_limit → (thread_limit ≤ m) ⊎ (1 < n) ⊎ (1 < p) → ⊥
user_out t m n p r x a b c f (inl e) = past t m thread_limit (sym a) e f
user_out t m n p r x a b c f (inr e) = bits_out n p r x b c e

-- the numbers behind `user`, where they are outside their ranges
no_user : (ws : List (List ℕ)) (m n p : ℕ) → (m < 2 ^ 64) × (n < 2 ^ 64) × (p < 2 ^ 64) × (ws ≡ codes "user" ∷ decimal m ∷ decimal n ∷ decimal p ∷ [])
    → (thread_limit ≤ m) ⊎ (1 < n) ⊎ (1 < p) → (c : Command) → IsCommand words.Raise ws c → ⊥
no_user ws m n p h out (commands.RaiseUser t r x) k =
    let first : m ≡ t.0 = sym (value_is ws 1 m h.0 (ap (λ us. get_or us 1 []) h.3)) ∙ value_is ws 1 t.0 (low t.0 thread_limit k.fits (omega arith)) (ap (λ us. get_or us 1 []) k.same) in
    let second : n ≡ bit r = sym (value_is ws 2 n h.1 (ap (λ us. get_or us 2 []) h.3)) ∙ value_is ws 2 (bit r) (bit_low r) (ap (λ us. get_or us 2 []) k.same) in
    let third : p ≡ bit x = sym (value_is ws 3 p h.2 (ap (λ us. get_or us 3 []) h.3)) ∙ value_is ws 3 (bit x) (bit_low x) (ap (λ us. get_or us 3 []) k.same) in
    user_out t.0 m n p r x first second third k.fits out
no_user ws m n p h out (commands.RaiseKernel r x) k = absurd (omega (arith, ap length h.3, ap length k.same))
no_user ws m n p h out commands.RaiseNested k = absurd (omega (arith, ap length h.3, ap length k.same))
no_user ws m n p h out (commands.Load t v l) j = absurd (cc j.kind)
no_user ws m n p h out (commands.Fetch t v l) j = absurd (cc j.kind)
no_user ws m n p h out (commands.KLoad t v l) j = absurd (cc j.kind)
no_user ws m n p h out (commands.Store t v l x) j = absurd (cc j.kind)
no_user ws m n p h out (commands.Free v) j = absurd (cc j.kind)
no_user ws m n p h out (commands.Drop q) j = absurd (cc j.kind)
no_user ws m n p h out (commands.Sync q) j = absurd (cc j.kind)
no_user ws m n p h out (commands.Out q) j = absurd (cc j.kind)
no_user ws m n p h out (commands.Fsync f) j = absurd (cc j.kind)
no_user ws m n p h out (commands.Open f) j = absurd (cc j.kind)
no_user ws m n p h out (commands.Prctl t args) j = absurd (cc j.kind)
no_user ws m n p h out (commands.Bad f l) j = absurd (cc j.kind)
no_user ws m n p h out (commands.Weak f l) j = absurd (cc j.kind)
no_user ws m n p h out (commands.Scrub a b) j = absurd (cc j.kind)
no_user ws m n p h out (commands.Log s a l) j = absurd (cc j.kind)
no_user ws m n p h out (commands.Inject f) j = absurd (cc j.kind)
no_user ws m n p h out (commands.Soft f) j = absurd (cc j.kind)
no_user ws m n p h out (commands.Unpoison f) j = absurd (cc j.kind)
no_user ws m n p h out (commands.Watch t w) j = absurd (cc j.kind)
no_user ws m n p h out (commands.Fork t w) j = absurd (cc j.kind)

-- the numbers behind `kernel`, where they are outside their ranges
no_kernel : (ws : List (List ℕ)) (m n : ℕ) → (m < 2 ^ 64) × (n < 2 ^ 64) × (ws ≡ codes "kernel" ∷ decimal m ∷ decimal n ∷ [])
    → (1 < m) ⊎ (1 < n) → (c : Command) → IsCommand words.Raise ws c → ⊥
no_kernel ws m n h out (commands.RaiseKernel r x) k =
    let first : m ≡ bit r = sym (value_is ws 1 m h.0 (ap (λ us. get_or us 1 []) h.2)) ∙ value_is ws 1 (bit r) (bit_low r) (ap (λ us. get_or us 1 []) k.same) in
    let second : n ≡ bit x = sym (value_is ws 2 n h.1 (ap (λ us. get_or us 2 []) h.2)) ∙ value_is ws 2 (bit x) (bit_low x) (ap (λ us. get_or us 2 []) k.same) in
    bits_out m n r x first second out
no_kernel ws m n h out (commands.RaiseUser t r x) k = absurd (omega (arith, ap length h.2, ap length k.same))
no_kernel ws m n h out commands.RaiseNested k = absurd (omega (arith, ap length h.2, ap length k.same))
no_kernel ws m n h out (commands.Load t v l) j = absurd (cc j.kind)
no_kernel ws m n h out (commands.Fetch t v l) j = absurd (cc j.kind)
no_kernel ws m n h out (commands.KLoad t v l) j = absurd (cc j.kind)
no_kernel ws m n h out (commands.Store t v l x) j = absurd (cc j.kind)
no_kernel ws m n h out (commands.Free v) j = absurd (cc j.kind)
no_kernel ws m n h out (commands.Drop q) j = absurd (cc j.kind)
no_kernel ws m n h out (commands.Sync q) j = absurd (cc j.kind)
no_kernel ws m n h out (commands.Out q) j = absurd (cc j.kind)
no_kernel ws m n h out (commands.Fsync f) j = absurd (cc j.kind)
no_kernel ws m n h out (commands.Open f) j = absurd (cc j.kind)
no_kernel ws m n h out (commands.Prctl t args) j = absurd (cc j.kind)
no_kernel ws m n h out (commands.Bad f l) j = absurd (cc j.kind)
no_kernel ws m n h out (commands.Weak f l) j = absurd (cc j.kind)
no_kernel ws m n h out (commands.Scrub a b) j = absurd (cc j.kind)
no_kernel ws m n h out (commands.Log s a l) j = absurd (cc j.kind)
no_kernel ws m n h out (commands.Inject f) j = absurd (cc j.kind)
no_kernel ws m n h out (commands.Soft f) j = absurd (cc j.kind)
no_kernel ws m n h out (commands.Unpoison f) j = absurd (cc j.kind)
no_kernel ws m n h out (commands.Watch t w) j = absurd (cc j.kind)
no_kernel ws m n h out (commands.Fork t w) j = absurd (cc j.kind)

pub over_user : (ws us : List (List ℕ)) (m n p : ℕ) → ws ≡ codes "user" ∷ us → (m < 2 ^ 64) × (n < 2 ^ 64) × (p < 2 ^ 64) × (us ≡ decimal m ∷ decimal n ∷ decimal p ∷ [])
    → (thread_limit ≤ m) ⊎ (1 < n) ⊎ (1 < p) → IsCommandOver words.Raise ws
over_user ws us m n p e h out = record {
  shaped = inl (omega (arith, ap length e, ap length h.3), ap (λ vs. get_or vs 0 []) e);
  numbers = three (drop 1 ws) m n p (h.0, h.1, h.2, ap (drop 1) e ∙ h.3);
  none = no_user ws m n p (h.0, h.1, h.2, e ∙ ap (λ vs. codes "user" ∷ vs) h.3) out;
}

pub over_kernel : (ws us : List (List ℕ)) (m n : ℕ) → ws ≡ codes "kernel" ∷ us → (m < 2 ^ 64) × (n < 2 ^ 64) × (us ≡ decimal m ∷ decimal n ∷ [])
    → (1 < m) ⊎ (1 < n) → IsCommandOver words.Raise ws
over_kernel ws us m n e h out = record {
  shaped = inr (inl (omega (arith, ap length e, ap length h.2), ap (λ vs. get_or vs 0 []) e));
  numbers = two (drop 1 ws) m n (h.0, h.1, ap (drop 1) e ∙ h.2);
  none = no_kernel ws m n (h.0, h.1, e ∙ ap (λ vs. codes "kernel" ∷ vs) h.2) out;
}
