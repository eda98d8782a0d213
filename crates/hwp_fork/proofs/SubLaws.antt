-- The accesses of a copy by their numbers.
use Rattle.std.proofs.Common.{◌≡◌, ℕ, zero, suc, ◌+◌, ◌*◌, ◌<◌, ◌≤◌, List, [], ◌∷◌, ◌++◌, length, slice_index, slice_index_or, refl, sym, ap, ◌∙◌, arith}
use Rattle.std.proofs.lemmas.List.{get_or_past, length-append}
use Rattle.hwp_geom.specs.declared.VSlot.{VSlot}
use Rattle.hwp_geom.specs.Limits.{line_limit}
use Rattle.hwp_fork.specs.declared.cow.Cow.{Cow}
use Rattle.hwp_fork.specs.declared.cow.Sub.{Sub}
use Rattle.hwp_fork.specs.declared.cow.Sub.TheVariants.{Load, Store, Free, Switched}
use Rattle.hwp_fork.specs.Subs.{copies, subs}
use Rattle.hwp_fork.specs.Cows.{due}

-- ---- some lines

at-load : (v w : VSlot) (told : List ℕ) (from n i : ℕ) (behind : List Sub) (d : Sub) → i < n → slice_index_or (copies v w told from n ++ behind) (2 * i) d ≡ Load v (from + i)
at-load v w told from zero i behind d within = absurd (omega (arith, within))
at-load v w told from (suc n) zero behind d within = ap (Load v) (omega arith)
at-load v w told from (suc n) (suc i) behind d within =
    let two : 2 * suc i ≡ suc (suc (2 * i)) = omega arith in
    let on : from + 1 + i ≡ from + suc i = omega arith in
    ap (λ (k : ℕ). slice_index_or (copies v w told from (suc n) ++ behind) k d) two ∙ (at-load v w told (from + 1) n i behind d (omega (arith, within)) ∙ ap (Load v) on)

at-store : (v w : VSlot) (told : List ℕ) (from n i : ℕ) (behind : List Sub) (d : Sub) → i < n → slice_index_or (copies v w told from n ++ behind) (2 * i + 1) d ≡ Store w (from + i) (slice_index told (2 * (from + i)))
at-store v w told from zero i behind d within = absurd (omega (arith, within))
at-store v w told from (suc n) zero behind d within =
    let on : from ≡ from + 0 = omega arith in
    ap (λ (k : ℕ). Store w k (slice_index told (2 * k))) on
at-store v w told from (suc n) (suc i) behind d within =
    let two : 2 * suc i + 1 ≡ suc (suc (2 * i + 1)) = omega arith in
    let on : from + 1 + i ≡ from + suc i = omega arith in
    ap (λ (k : ℕ). slice_index_or (copies v w told from (suc n) ++ behind) k d) two
    ∙ (at-store v w told (from + 1) n i behind d (omega (arith, within)) ∙ ap (λ (k : ℕ). Store w k (slice_index told (2 * k))) on)

at-behind : (v w : VSlot) (told : List ℕ) (from n i : ℕ) (behind : List Sub) (d : Sub) → slice_index_or (copies v w told from n ++ behind) (2 * n + i) d ≡ slice_index_or behind i d
at-behind v w told from zero i behind d =
    let none : 2 * 0 + i ≡ i = omega arith in
    ap (λ (k : ℕ). slice_index_or behind k d) none
at-behind v w told from (suc n) i behind d =
    let two : 2 * suc n + i ≡ suc (suc (2 * n + i)) = omega arith in
    ap (λ (k : ℕ). slice_index_or (copies v w told from (suc n) ++ behind) k d) two ∙ at-behind v w told (from + 1) n i behind d

length-copies : (v w : VSlot) (told : List ℕ) (from n : ℕ) → length (copies v w told from n) ≡ 2 * n
length-copies v w told from zero = refl
length-copies v w told from (suc n) =
    let before : length (copies v w told (from + 1) n) ≡ 2 * n = length-copies v w told (from + 1) n in
    let more : length (copies v w told from (suc n)) ≡ suc (suc (length (copies v w told (from + 1) n))) = refl in
    omega (arith, before, more)

-- of all lines with what comes behind
pub length-subs : (v w : VSlot) (line x : ℕ) (told : List ℕ) → length (subs v w line x told) ≡ 2 * line_limit + 2
length-subs v w line x told =
    let copied : length (copies v w told 0 line_limit) ≡ 2 * line_limit = length-copies v w told 0 line_limit in
    let all : length (subs v w line x told) ≡ length (copies v w told 0 line_limit) + 2 = length-append (copies v w told 0 line_limit) (Store w line x ∷ Free v ∷ []) in
    omega (arith, copied, all)

-- ---- the access that is due

due-at : (c : Cow) (told : List ℕ) (n : ℕ) (sub : Sub) → length told ≡ n → slice_index_or (subs c.v c.w c.line c.x told) n Switched ≡ sub → sub ≡ due c told
due-at c told n sub so_many is = sym (ap (λ (k : ℕ). slice_index_or (subs c.v c.w c.line c.x told) k Switched) so_many ∙ is)

abbrev ends : Cow → List Sub
ends c = Store c.w c.line c.x ∷ Free c.v ∷ []

pub due-load : (c : Cow) (told : List ℕ) (line : ℕ) → line < line_limit → length told ≡ 2 * line → Load c.v line ≡ due c told
due-load c told line within so_many =
    let first : 0 + line ≡ line = omega arith in
    due-at c told (2 * line) (Load c.v line) so_many (at-load c.v c.w told 0 line_limit line (ends c) Switched within ∙ ap (Load c.v) first)

pub due-store : (c : Cow) (told : List ℕ) (line word : ℕ) → line < line_limit → length told ≡ 2 * line + 1 → slice_index told (2 * line) ≡ word → Store c.w line word ≡ due c told
due-store c told line word within so_many is =
    let first : 0 + line ≡ line = omega arith in
    due-at c told (2 * line + 1) (Store c.w line word) so_many
    (at-store c.v c.w told 0 line_limit line (ends c) Switched within
    ∙ (ap (λ (k : ℕ). Store c.w k (slice_index told (2 * k))) first ∙ ap (Store c.w line) is))

pub due-last : (c : Cow) (told : List ℕ) → length told ≡ 2 * line_limit → Store c.w c.line c.x ≡ due c told
due-last c told so_many = due-at c told (2 * line_limit) (Store c.w c.line c.x) so_many (at-behind c.v c.w told 0 line_limit 0 (ends c) Switched)

pub due-free : (c : Cow) (told : List ℕ) → length told ≡ 2 * line_limit + 1 → Free c.v ≡ due c told
due-free c told so_many = due-at c told (2 * line_limit + 1) (Free c.v) so_many (at-behind c.v c.w told 0 line_limit 1 (ends c) Switched)

pub due-switched : (c : Cow) (told : List ℕ) → 2 * line_limit + 2 ≤ length told → Switched ≡ due c told
due-switched c told past = sym (get_or_past (subs c.v c.w c.line c.x told) (length told) Switched (omega (arith, past, length-subs c.v c.w c.line c.x told)))
