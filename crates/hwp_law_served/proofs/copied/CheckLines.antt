-- The lines of machine checks among entries, by the number of accesses before them.
use Rattle.std.proofs.Common.{◌≡◌, ◌≢◌, ℕ, zero, suc, ◌+◌, ◌<◌, ◌==◌, Bool, true, false, cond, List, [], ◌∷◌, ◌++◌, append_assoc, filter, length, map, replicate, flat_map, refl, sym, ap, ◌∙◌, arith}
use Rattle.std.specs.Int.{from_bool}
use Rattle.std.specs.List.{range_with_len}
use Rattle.std.proofs.lemmas.Bool.{both_ways, eq-eqb, eqb-true, ne_eqb}
use Rattle.std.proofs.lemmas.List.{map-append}
use Rattle.std.proofs.lemmas.List.Elements.{filter-append}
use Rattle.hwp_law.specs.hwp_geom.declared.Mask.{Mask}
use Rattle.hwp_law.specs.hwp_geom.declared.Page.{Page}
use Rattle.hwp_law.specs.hwp_geom.declared.VSlot.{VSlot}
use Rattle.hwp_law.specs.hwp_page.declared.What.{What}
use Rattle.hwp_law.specs.hwp_page.declared.What.TheVariants as entries
use Rattle.hwp_plain.specs.hwp_core_rule.declared.Made.{Made}
use Rattle.hwp_plain.specs.hwp_core_rule.Lists.{EachMember}
use Rattle.hwp_law.specs.Commands.{is_check}
use Rattle.hwp_law.specs.Copies.{checks_by, lines_at}
use Rattle.hwp_law_served.proofs.copied.CopyCounts.{num}
use Rattle.hwp_law_served.proofs.copied.OwnIn.{in_page}

-- ---- the lines at a number

at-append : (n : ℕ) (a b : List (ℕ × ℕ)) → lines_at n (a ++ b) ≡ lines_at n a ++ lines_at n b
at-append n a b = ap (map (λ (c : ℕ × ℕ). c.1)) (filter-append (λ (c : ℕ × ℕ). c.0 == n) a b) ∙ map-append (λ (c : ℕ × ℕ). c.1) (filter (λ (c : ℕ × ℕ). c.0 == n) a) (filter (λ (c : ℕ × ℕ). c.0 == n) b)

at-same : (n line q : ℕ) → lines_at n (replicate q (n, line)) ≡ replicate q line
at-same n line zero = refl
at-same n line (suc q) =
    ap (λ (b : Bool). map (λ (c : ℕ × ℕ). c.1) (cond b ((n, line) ∷ filter (λ (c : ℕ × ℕ). c.0 == n) (replicate q (n, line))) (filter (λ (c : ℕ × ℕ). c.0 == n) (replicate q (n, line))))) (eq-eqb n n refl)
    ∙ ap (λ (l : List ℕ). line ∷ l) (at-same n line q)

at-other : (k n line q : ℕ) → n ≢ k → lines_at k (replicate q (n, line)) ≡ []
at-other k n line zero other = refl
at-other k n line (suc q) other =
    ap (λ (b : Bool). map (λ (c : ℕ × ℕ). c.1) (cond b ((n, line) ∷ filter (λ (c : ℕ × ℕ). c.0 == k) (replicate q (n, line))) (filter (λ (c : ℕ × ℕ). c.0 == k) (replicate q (n, line))))) (ne_eqb n k other)
    ∙ at-other k n line q other

-- ---- line by line

abbrev pub line_by_line : ℕ → ℕ → List (ℕ × ℕ) → List (ℕ × ℕ) → List ℕ
line_by_line m n loads stores = flat_map (λ k. lines_at k loads ++ lines_at k stores) (range_with_len m n)

-- with other checks of the same lines from the number on
by-same : (m n : ℕ) (a b c d : List (ℕ × ℕ)) → ((k : ℕ) → m < k + 1 → lines_at k a ≡ lines_at k c) → ((k : ℕ) → m < k + 1 → lines_at k b ≡ lines_at k d) → line_by_line m n a b ≡ line_by_line m n c d
by-same m zero a b c d first second = refl
by-same m (suc n) a b c d first second =
    ap (λ (l : List ℕ). (l ++ lines_at m b) ++ line_by_line (m + 1) n a b) (first m (omega arith))
    ∙ ap (λ (l : List ℕ). (lines_at m c ++ l) ++ line_by_line (m + 1) n a b) (second m (omega arith))
    ∙ ap (λ (l : List ℕ). (lines_at m c ++ lines_at m d) ++ l) (by-same (m + 1) n a b c d (λ k past. first k (omega (arith, past))) (λ k past. second k (omega (arith, past))))

pub by-none : (m n : ℕ) → line_by_line m n [] [] ≡ []
by-none m zero = refl
by-none m (suc n) = by-none (m + 1) n

-- those of the first line, of a load
pub by-load : (m n line q : ℕ) (a b : List (ℕ × ℕ)) → 0 < n → line_by_line m n (replicate q (m, line) ++ a) b ≡ replicate q line ++ line_by_line m n a b
by-load m zero line q a b some = absurd (omega (arith, some))
by-load m (suc n) line q a b some =
    ap (λ (l : List ℕ). (l ++ lines_at m b) ++ line_by_line (m + 1) n (replicate q (m, line) ++ a) b) (at-append m (replicate q (m, line)) a ∙ ap (λ (l : List ℕ). l ++ lines_at m a) (at-same m line q))
    ∙ ap (λ (l : List ℕ). ((replicate q line ++ lines_at m a) ++ lines_at m b) ++ l)
    (by-same (m + 1) n (replicate q (m, line) ++ a) b a b (λ k past. at-append k (replicate q (m, line)) a ∙ ap (λ (l : List ℕ). l ++ lines_at k a) (at-other k m line q (λ same. omega (arith, past, same)))) (λ k past. refl))
    ∙ ap (λ (l : List ℕ). l ++ line_by_line (m + 1) n a b) (append_assoc (replicate q line) (lines_at m a) (lines_at m b))
    ∙ append_assoc (replicate q line) (lines_at m a ++ lines_at m b) (line_by_line (m + 1) n a b)

-- and of a store, where no load is left
pub by-store : (m n line q : ℕ) (a b : List (ℕ × ℕ)) → 0 < n → lines_at m a ≡ [] → line_by_line m n a (replicate q (m, line) ++ b) ≡ replicate q line ++ line_by_line m n a b
by-store m zero line q a b some none = absurd (omega (arith, some))
by-store m (suc n) line q a b some none =
    ap (λ (l : List ℕ). (l ++ lines_at m (replicate q (m, line) ++ b)) ++ line_by_line (m + 1) n a (replicate q (m, line) ++ b)) none
    ∙ ap (λ (l : List ℕ). l ++ line_by_line (m + 1) n a (replicate q (m, line) ++ b)) (at-append m (replicate q (m, line)) b ∙ ap (λ (l : List ℕ). l ++ lines_at m b) (at-same m line q))
    ∙ ap (λ (l : List ℕ). (replicate q line ++ lines_at m b) ++ l)
    (by-same (m + 1) n a (replicate q (m, line) ++ b) a b (λ k past. refl) (λ k past. at-append k (replicate q (m, line)) b ∙ ap (λ (l : List ℕ). l ++ lines_at k b) (at-other k m line q (λ same. omega (arith, past, same)))))
    ∙ append_assoc (replicate q line) (lines_at m b) (line_by_line (m + 1) n a b)
    ∙ ap (λ (l : List ℕ). replicate q line ++ ((l ++ lines_at m b) ++ line_by_line (m + 1) n a b)) (sym none)

-- a line that none is left of
pub by-next : (m n : ℕ) (a b : List (ℕ × ℕ)) → lines_at m a ≡ [] → lines_at m b ≡ [] → line_by_line m (suc n) a b ≡ line_by_line (m + 1) n a b
by-next m n a b first second =
    ap (λ (l : List ℕ). (l ++ lines_at m b) ++ line_by_line (m + 1) n a b) first
    ∙ ap (λ (l : List ℕ). l ++ line_by_line (m + 1) n a b) second

-- ---- checks among entries

low-one : (test : What → Bool) (w : What) (ws : List What) (k n : ℕ) → k < n → ((i : ℕ) → k < i → lines_at k (checks_by test i ws) ≡ []) → lines_at k (checks_by test n (w ∷ ws)) ≡ []
low-one test (entries.Mce slot line mask) ws k n less rest =
    ap (λ (b : Bool). map (λ (c : ℕ × ℕ). c.1) (cond b ((n, line) ∷ filter (λ (c : ℕ × ℕ). c.0 == k) (checks_by test n ws)) (filter (λ (c : ℕ × ℕ). c.0 == k) (checks_by test n ws)))) (ne_eqb n k (λ same. omega (arith, less, same)))
    ∙ rest n less
low-one test w ws k n less rest = rest (n + from_bool (test w)) (omega (arith, less))

-- none has a lower number than the first
low-lines : (test : What → Bool) (ws : List What) (k n : ℕ) → k < n → lines_at k (checks_by test n ws) ≡ []
low-lines test [] k n less = refl
low-lines test (w ∷ ws) k n less = low-one test w ws k n less (λ i below. low-lines test ws k i below)

-- one that is no check
pass-one : (test : What → Bool) (w : What) (ws : List What) (n : ℕ) → is_check w ≡ false → checks_by test n (w ∷ ws) ≡ checks_by test (n + from_bool (test w)) ws
pass-one test (entries.Mce slot line mask) ws n misses = absurd (both_ways true misses refl)
pass-one test w ws n misses = refl

-- those in a page, from a number of accesses on
abbrev pub seen : Page → (What → Bool) → ℕ → List Made → List (ℕ × ℕ)
seen page test n l = checks_by test n (map (λ (m : Made). m.entry.what) (in_page page l))

pub low-seen : (page : Page) (test : What → Bool) (l : List Made) (k n : ℕ) → k < n → lines_at k (seen page test n l) ≡ []
low-seen page test l k n less = low-lines test (map (λ (m : Made). m.entry.what) (in_page page l)) k n less

seen-in : (page : Page) (test : What → Bool) (n : ℕ) (m : Made) (l : List Made) → m.page ≡ page → seen page test n (m ∷ l) ≡ checks_by test n (m.entry.what ∷ map (λ (x : Made). x.entry.what) (in_page page l))
seen-in page test n m l own = ap (λ (b : Bool). checks_by test n (map (λ (x : Made). x.entry.what) (cond b (m ∷ in_page page l) (in_page page l)))) (eq-eqb m.page.0 page.0 (ap (λ (p : Page). p.0) own))

-- it is in another page, or is no check and no access
pub record IsQuiet (page : Page) (test : What → Bool) (m : Made) : Type 0 where
  pub unchecked : m.page ≡ page → is_check m.entry.what ≡ false
  pub fails : m.page ≡ page → test m.entry.what ≡ false

quiet-one : (page : Page) (test : What → Bool) (n : ℕ) (m : Made) (l : List Made) → IsQuiet page test m → seen page test n (m ∷ l) ≡ seen page test n l
quiet-one page test n m l quiet = which (m.page.0 == page.0) refl
  where
    own : (m.page.0 == page.0) ≡ true → m.page ≡ page
    own is = ap (λ (k : ℕ). record { 0 = k }) (eqb-true m.page.0 page.0 is)

    which : (b : Bool) → (m.page.0 == page.0) ≡ b → checks_by test n (map (λ (x : Made). x.entry.what) (cond b (m ∷ in_page page l) (in_page page l))) ≡ seen page test n l
    which true is =
        pass-one test m.entry.what (map (λ (x : Made). x.entry.what) (in_page page l)) n (quiet.unchecked (own is))
        ∙ ap (λ (b : Bool). checks_by test (n + from_bool b) (map (λ (x : Made). x.entry.what) (in_page page l))) (quiet.fails (own is))
        ∙ ap (λ (k : ℕ). checks_by test k (map (λ (x : Made). x.entry.what) (in_page page l))) (let none : n + from_bool false ≡ n = omega arith in none)
    which false is = refl

pub quiet-all : (page : Page) (test : What → Bool) (n : ℕ) (front l : List Made) → EachMember (IsQuiet page test) front → seen page test n (front ++ l) ≡ seen page test n l
quiet-all page test n [] l each = refl
quiet-all page test n (m ∷ ms) l each = quiet-one page test n m (ms ++ l) (each 0 m refl) ∙ quiet-all page test n ms l (λ i x there. each (suc i) x there)

-- an access that was answered
pub seen-access : (page : Page) (test : What → Bool) (n : ℕ) (m : Made) (l : List Made) → m.page ≡ page → is_check m.entry.what ≡ false → test m.entry.what ≡ true → seen page test n (m ∷ l) ≡ seen page test (n + 1) l
seen-access page test n m l own misses hits =
    seen-in page test n m l own
    ∙ pass-one test m.entry.what (map (λ (x : Made). x.entry.what) (in_page page l)) n misses
    ∙ ap (λ (b : Bool). checks_by test (n + from_bool b) (map (λ (x : Made). x.entry.what) (in_page page l))) hits

-- a machine check in the page, at the line
pub record IsCheckAt (page : Page) (line : ℕ) (m : Made) : Type 0 where
  pub page_is : m.page ≡ page
  pub slot : VSlot
  pub mask : Mask
  pub what_is : m.entry.what ≡ entries.Mce slot line mask

-- on the way of an access to the line: no access, and a check only in the page, at the line
pub record IsWay (page : Page) (line : ℕ) (test : What → Bool) (m : Made) : Type 0 where
  pub fails : test m.entry.what ≡ false
  pub checked : is_check m.entry.what ≡ true → IsCheckAt page line m

way-one : (page : Page) (line : ℕ) (test : What → Bool) (n : ℕ) (m : Made) (ms l : List Made) → IsWay page line test m → seen page test n (ms ++ l) ≡ replicate (num is_check ms) (n, line) ++ seen page test n l
    → seen page test n (m ∷ (ms ++ l)) ≡ replicate (num is_check (m ∷ ms)) (n, line) ++ seen page test n l
way-one page line test n m ms l way rest = which (is_check m.entry.what) refl
  where
    which : (b : Bool) → is_check m.entry.what ≡ b → seen page test n (m ∷ (ms ++ l)) ≡ replicate (length (cond b (m ∷ filter (λ (x : Made). is_check x.entry.what) ms) (filter (λ (x : Made). is_check x.entry.what) ms))) (n, line) ++ seen page test n l
    which true is =
        let checked = way.checked is in
        seen-in page test n m (ms ++ l) checked.page_is
        ∙ ap (λ (w : What). checks_by test n (w ∷ map (λ (x : Made). x.entry.what) (in_page page (ms ++ l)))) checked.what_is
        ∙ ap (λ (c : List (ℕ × ℕ)). (n, line) ∷ c) rest
    which false is = quiet-one page test n m (ms ++ l) (record { unchecked = λ own. is; fails = λ own. way.fails }) ∙ rest

pub way-all : (page : Page) (line : ℕ) (test : What → Bool) (n : ℕ) (front l : List Made) → EachMember (IsWay page line test) front → seen page test n (front ++ l) ≡ replicate (num is_check front) (n, line) ++ seen page test n l
way-all page line test n [] l each = refl
way-all page line test n (m ∷ ms) l each = way-one page line test n m ms l (each 0 m refl) (way-all page line test n ms l (λ i x there. each (suc i) x there))

-- where there is no check, there is none of the page
none-one : (page : Page) (test : What → Bool) (n : ℕ) (m : Made) (l : List Made) (b : Bool) → is_check m.entry.what ≡ false → ((k : ℕ) → seen page test k l ≡ []) → checks_by test n (map (λ (x : Made). x.entry.what) (cond b (m ∷ in_page page l) (in_page page l))) ≡ []
none-one page test n m l true misses rest = pass-one test m.entry.what (map (λ (x : Made). x.entry.what) (in_page page l)) n misses ∙ rest (n + from_bool (test m.entry.what))
none-one page test n m l false misses rest = rest n

none-first : (m : Made) (l : List Made) → num is_check (m ∷ l) ≡ 0 → (is_check m.entry.what ≡ false) × (num is_check l ≡ 0)
none-first m l none = which (is_check m.entry.what) none
  where
    which : (b : Bool) → length (cond b (m ∷ filter (λ (x : Made). is_check x.entry.what) l) (filter (λ (x : Made). is_check x.entry.what) l)) ≡ 0 → (b ≡ false) × (num is_check l ≡ 0)
    which true is = absurd (let some : suc (num is_check l) ≡ 0 = is in omega (arith, some))
    which false is = (refl, is)

pub none-seen : (page : Page) (test : What → Bool) (n : ℕ) (l : List Made) → num is_check l ≡ 0 → seen page test n l ≡ []
none-seen page test n [] none = refl
none-seen page test n (m ∷ ms) none = let first = none-first m ms none in none-one page test n m ms (m.page.0 == page.0) first.0 (λ k. none-seen page test k ms first.1)
