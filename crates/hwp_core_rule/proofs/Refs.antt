-- References to a frame: what a view lists after more or fewer of them, and after a word begins or stops to name a frame.
use Rattle.std.proofs.Common.{◌≡◌, ◌≢◌, ℕ, ◌+◌, ◌-◌, ◌*◌, ◌<◌, ◌≤◌, ◌==◌, nat_le, Bool, true, false, cond, List, [], ◌∷◌, Option, Some, None, length, inl, inr, refl, sym, ap, ◌∙◌, subst, arith}
use Rattle.std.proofs.lemmas.Bool.{eqb-true, ne_eqb, leb-true, leb-false}
use Rattle.std.proofs.lemmas.List.Sums.{sum_by-cons}
use Rattle.std.specs.Int.{from_bool}
use Rattle.hwp_page.specs.hwp_geom.declared.Frame.{Frame}
use Rattle.hwp_core_rule.specs.declared.view.Ref.{Ref}
use Rattle.hwp_core_rule.specs.Views.{refs_on, with_refs, less_refs, with_named, less_named}
use Rattle.hwp_core_rule.proofs.Lists.{same-or, same-number}

-- what one member says of a frame
abbrev pub share : ℕ → Ref → ℕ
share f r = cond (r.frame.0 == f) r.count 0

pub refs-cons : (f : ℕ) (r : Ref) (rs : List Ref) → refs_on f (r ∷ rs) ≡ share f r + refs_on f rs
refs-cons f r rs = sum_by-cons (share f) r rs

share-here : (f : ℕ) (r : Ref) → (r.frame.0 == f) ≡ true → share f r ≡ r.count
share-here f r e = ap (λ (b : Bool). cond b r.count 0) e

share-other : (f : ℕ) (r : Ref) → r.frame.0 ≢ f → share f r ≡ 0
share-other f r ne = which (r.frame.0 == f) refl
  where
    which : (b : Bool) → (r.frame.0 == f) ≡ b → share f r ≡ 0
    which true e = absurd (ne (eqb-true r.frame.0 f e))
    which false e = ap (λ (b : Bool). cond b r.count 0) e

module _ (frame : Frame) where
  pub refs-with : (n : ℕ) (rs : List Ref) → refs_on frame.0 (with_refs frame n rs) ≡ refs_on frame.0 rs + n
  refs-with n [] =
      let one : refs_on frame.0 (with_refs frame n []) ≡ share frame.0 (record { frame = frame; count = n }) + refs_on frame.0 [] = refs-cons frame.0 (record { frame = frame; count = n }) [] in
      let is : share frame.0 (record { frame = frame; count = n }) ≡ n = share-here frame.0 (record { frame = frame; count = n }) (same-number frame.0 frame.0 refl) in
      let none : refs_on frame.0 [] ≡ 0 = refl in
      omega arith
  refs-with n (r ∷ rs) = which (refs-with n rs) (r.frame.0 == frame.0) refl
    where
      which : (refs_on frame.0 (with_refs frame n rs) ≡ refs_on frame.0 rs + n) → (b : Bool) → (r.frame.0 == frame.0) ≡ b → refs_on frame.0 (cond b (record r { count = r.count + n } ∷ rs) (r ∷ with_refs frame n rs)) ≡ refs_on frame.0 (r ∷ rs) + n
      which again true e =
          let left : refs_on frame.0 (record r { count = r.count + n } ∷ rs) ≡ share frame.0 (record r { count = r.count + n }) + refs_on frame.0 rs = refs-cons frame.0 (record r { count = r.count + n }) rs in
          let right : refs_on frame.0 (r ∷ rs) ≡ share frame.0 r + refs_on frame.0 rs = refs-cons frame.0 r rs in
          let now : share frame.0 (record r { count = r.count + n }) ≡ r.count + n = share-here frame.0 (record r { count = r.count + n }) e in
          let was : share frame.0 r ≡ r.count = share-here frame.0 r e in
          omega arith
      which again false e =
          let left : refs_on frame.0 (r ∷ with_refs frame n rs) ≡ share frame.0 r + refs_on frame.0 (with_refs frame n rs) = refs-cons frame.0 r (with_refs frame n rs) in
          let right : refs_on frame.0 (r ∷ rs) ≡ share frame.0 r + refs_on frame.0 rs = refs-cons frame.0 r rs in
          let rest : refs_on frame.0 (with_refs frame n rs) ≡ refs_on frame.0 rs + n = again in
          omega arith

  pub refs-with-other : (n g : ℕ) (rs : List Ref) → g ≢ frame.0 → refs_on g (with_refs frame n rs) ≡ refs_on g rs
  refs-with-other n g [] ne =
      let one : refs_on g (with_refs frame n []) ≡ share g (record { frame = frame; count = n }) + refs_on g [] = refs-cons g (record { frame = frame; count = n }) [] in
      let is : share g (record { frame = frame; count = n }) ≡ 0 = share-other g (record { frame = frame; count = n }) (λ e. ne (sym e)) in
      let none : refs_on g [] ≡ 0 = refl in
      omega arith
  refs-with-other n g (r ∷ rs) ne = which (refs-with-other n g rs ne) (r.frame.0 == frame.0) refl
    where
      which : (refs_on g (with_refs frame n rs) ≡ refs_on g rs) → (b : Bool) → (r.frame.0 == frame.0) ≡ b → refs_on g (cond b (record r { count = r.count + n } ∷ rs) (r ∷ with_refs frame n rs)) ≡ refs_on g (r ∷ rs)
      which again true e =
          let at : r.frame.0 ≢ g = λ h. ne (sym h ∙ eqb-true r.frame.0 frame.0 e) in
          let left : refs_on g (record r { count = r.count + n } ∷ rs) ≡ share g (record r { count = r.count + n }) + refs_on g rs = refs-cons g (record r { count = r.count + n }) rs in
          let right : refs_on g (r ∷ rs) ≡ share g r + refs_on g rs = refs-cons g r rs in
          let now : share g (record r { count = r.count + n }) ≡ 0 = share-other g (record r { count = r.count + n }) at in
          let was : share g r ≡ 0 = share-other g r at in
          omega arith
      which again false e =
          let left : refs_on g (r ∷ with_refs frame n rs) ≡ share g r + refs_on g (with_refs frame n rs) = refs-cons g r (with_refs frame n rs) in
          let right : refs_on g (r ∷ rs) ≡ share g r + refs_on g rs = refs-cons g r rs in
          let rest : refs_on g (with_refs frame n rs) ≡ refs_on g rs = again in
          omega arith

  -- no more members where the frame is listed, and at most one more
  pub length-with : (n : ℕ) (rs : List Ref) → length (with_refs frame n rs) ≤ length rs + 1
  length-with n [] = omega arith
  length-with n (r ∷ rs) = which (length-with n rs) (r.frame.0 == frame.0)
    where
      which : (length (with_refs frame n rs) ≤ length rs + 1) → (b : Bool) → length (cond b (record r { count = r.count + n } ∷ rs) (r ∷ with_refs frame n rs)) ≤ length (r ∷ rs) + 1
      which again true = omega arith
      which again false = let rest : length (with_refs frame n rs) ≤ length rs + 1 = again in omega arith

  pub length-with-listed : (n : ℕ) (rs : List Ref) → 0 < refs_on frame.0 rs → length (with_refs frame n rs) ≡ length rs
  length-with-listed n [] some = absurd (omega arith)
  length-with-listed n (r ∷ rs) some = which (length-with-listed n rs) (r.frame.0 == frame.0) refl
    where
      which : (0 < refs_on frame.0 rs → length (with_refs frame n rs) ≡ length rs) → (b : Bool) → (r.frame.0 == frame.0) ≡ b → length (cond b (record r { count = r.count + n } ∷ rs) (r ∷ with_refs frame n rs)) ≡ length (r ∷ rs)
      which again true e = refl
      which again false e =
          let all : refs_on frame.0 (r ∷ rs) ≡ share frame.0 r + refs_on frame.0 rs = refs-cons frame.0 r rs in
          let none : share frame.0 r ≡ 0 = ap (λ (b : Bool). cond b r.count 0) e in
          let rest : length (with_refs frame n rs) ≡ length rs = again (omega arith) in
          omega arith

  -- fewer references
  pub refs-less : (n : ℕ) (rs : List Ref) → refs_on frame.0 (less_refs frame n rs) ≡ refs_on frame.0 rs - n
  refs-less n [] = omega arith
  refs-less n (r ∷ rs) = which (λ m. refs-less m rs) (r.frame.0 == frame.0) (nat_le r.count n) refl refl
    where
      which : ((m : ℕ) → refs_on frame.0 (less_refs frame m rs) ≡ refs_on frame.0 rs - m) → (b c : Bool) → (r.frame.0 == frame.0) ≡ b → nat_le r.count n ≡ c
          → refs_on frame.0 (cond b (cond c (less_refs frame (n - r.count) rs) (record r { count = r.count - n } ∷ rs)) (r ∷ less_refs frame n rs)) ≡ refs_on frame.0 (r ∷ rs) - n
      which again true true e le =
          let right : refs_on frame.0 (r ∷ rs) ≡ share frame.0 r + refs_on frame.0 rs = refs-cons frame.0 r rs in
          let was : share frame.0 r ≡ r.count = share-here frame.0 r e in
          let few : r.count ≤ n = leb-true r.count n le in
          let rest : refs_on frame.0 (less_refs frame (n - r.count) rs) ≡ refs_on frame.0 rs - (n - r.count) = again (n - r.count) in
          omega arith
      which again true false e le =
          let left : refs_on frame.0 (record r { count = r.count - n } ∷ rs) ≡ share frame.0 (record r { count = r.count - n }) + refs_on frame.0 rs = refs-cons frame.0 (record r { count = r.count - n }) rs in
          let right : refs_on frame.0 (r ∷ rs) ≡ share frame.0 r + refs_on frame.0 rs = refs-cons frame.0 r rs in
          let now : share frame.0 (record r { count = r.count - n }) ≡ r.count - n = share-here frame.0 (record r { count = r.count - n }) e in
          let was : share frame.0 r ≡ r.count = share-here frame.0 r e in
          let many : n < r.count = leb-false r.count n le in
          omega arith
      which again false c e le =
          let left : refs_on frame.0 (r ∷ less_refs frame n rs) ≡ share frame.0 r + refs_on frame.0 (less_refs frame n rs) = refs-cons frame.0 r (less_refs frame n rs) in
          let right : refs_on frame.0 (r ∷ rs) ≡ share frame.0 r + refs_on frame.0 rs = refs-cons frame.0 r rs in
          let none : share frame.0 r ≡ 0 = ap (λ (b : Bool). cond b r.count 0) e in
          let rest : refs_on frame.0 (less_refs frame n rs) ≡ refs_on frame.0 rs - n = again n in
          omega arith

  pub refs-less-other : (n g : ℕ) (rs : List Ref) → g ≢ frame.0 → refs_on g (less_refs frame n rs) ≡ refs_on g rs
  refs-less-other n g [] ne = refl
  refs-less-other n g (r ∷ rs) ne = which (λ m. refs-less-other m g rs ne) (r.frame.0 == frame.0) (nat_le r.count n) refl
    where
      which : ((m : ℕ) → refs_on g (less_refs frame m rs) ≡ refs_on g rs) → (b c : Bool) → (r.frame.0 == frame.0) ≡ b
          → refs_on g (cond b (cond c (less_refs frame (n - r.count) rs) (record r { count = r.count - n } ∷ rs)) (r ∷ less_refs frame n rs)) ≡ refs_on g (r ∷ rs)
      which again true true e =
          let at : r.frame.0 ≢ g = λ h. ne (sym h ∙ eqb-true r.frame.0 frame.0 e) in
          let right : refs_on g (r ∷ rs) ≡ share g r + refs_on g rs = refs-cons g r rs in
          let was : share g r ≡ 0 = share-other g r at in
          let rest : refs_on g (less_refs frame (n - r.count) rs) ≡ refs_on g rs = again (n - r.count) in
          omega arith
      which again true false e =
          let at : r.frame.0 ≢ g = λ h. ne (sym h ∙ eqb-true r.frame.0 frame.0 e) in
          let left : refs_on g (record r { count = r.count - n } ∷ rs) ≡ share g (record r { count = r.count - n }) + refs_on g rs = refs-cons g (record r { count = r.count - n }) rs in
          let right : refs_on g (r ∷ rs) ≡ share g r + refs_on g rs = refs-cons g r rs in
          let now : share g (record r { count = r.count - n }) ≡ 0 = share-other g (record r { count = r.count - n }) at in
          let was : share g r ≡ 0 = share-other g r at in
          omega arith
      which again false c e =
          let left : refs_on g (r ∷ less_refs frame n rs) ≡ share g r + refs_on g (less_refs frame n rs) = refs-cons g r (less_refs frame n rs) in
          let right : refs_on g (r ∷ rs) ≡ share g r + refs_on g rs = refs-cons g r rs in
          let rest : refs_on g (less_refs frame n rs) ≡ refs_on g rs = again n in
          omega arith

  pub length-less : (n : ℕ) (rs : List Ref) → length (less_refs frame n rs) ≤ length rs
  length-less n [] = omega arith
  length-less n (r ∷ rs) = which (λ m. length-less m rs) (r.frame.0 == frame.0) (nat_le r.count n)
    where
      which : ((m : ℕ) → length (less_refs frame m rs) ≤ length rs) → (b c : Bool) → length (cond b (cond c (less_refs frame (n - r.count) rs) (record r { count = r.count - n } ∷ rs)) (r ∷ less_refs frame n rs)) ≤ length (r ∷ rs)
      which again true true = let rest : length (less_refs frame (n - r.count) rs) ≤ length rs = again (n - r.count) in omega arith
      which again true false = omega arith
      which again false c = let rest : length (less_refs frame n rs) ≤ length rs = again n in omega arith

  -- all references given back take a member away
  pub length-less-all : (n : ℕ) (rs : List Ref) → 0 < n → refs_on frame.0 rs ≡ n → length (less_refs frame n rs) + 1 ≤ length rs
  length-less-all n [] some all = absurd (omega (arith, all))
  length-less-all n (r ∷ rs) some all = which (length-less-all n rs some) (r.frame.0 == frame.0) (nat_le r.count n) refl refl
    where
      which : (refs_on frame.0 rs ≡ n → length (less_refs frame n rs) + 1 ≤ length rs) → (b c : Bool) → (r.frame.0 == frame.0) ≡ b → nat_le r.count n ≡ c
          → length (cond b (cond c (less_refs frame (n - r.count) rs) (record r { count = r.count - n } ∷ rs)) (r ∷ less_refs frame n rs)) + 1 ≤ length (r ∷ rs)
      which again true true e le = let rest : length (less_refs frame (n - r.count) rs) ≤ length rs = length-less (n - r.count) rs in omega arith
      which again true false e le =
          let right : refs_on frame.0 (r ∷ rs) ≡ share frame.0 r + refs_on frame.0 rs = refs-cons frame.0 r rs in
          let was : share frame.0 r ≡ r.count = share-here frame.0 r e in
          let many : n < r.count = leb-false r.count n le in
          absurd (omega (arith, all))
      which again false c e le =
          let right : refs_on frame.0 (r ∷ rs) ≡ share frame.0 r + refs_on frame.0 rs = refs-cons frame.0 r rs in
          let none : share frame.0 r ≡ 0 = ap (λ (b : Bool). cond b r.count 0) e in
          let rest : length (less_refs frame n rs) + 1 ≤ length rs = again (omega (arith, all)) in
          omega arith

-- ---- names of frames

-- 1 where the name is that of frame f
abbrev pub hits : ℕ → Option Frame → ℕ
hits f None = 0
hits f (Some frame) = from_bool (frame.0 == f)

hits-one : (f : ℕ) (name : Option Frame) → hits f name ≤ 1
hits-one f None = omega arith
hits-one f (Some frame) = which (frame.0 == f)
  where
    which : (b : Bool) → from_bool b ≤ 1
    which true = omega arith
    which false = omega arith

refs-with-named : (f : ℕ) (name : Option Frame) (rs : List Ref) → refs_on f (with_named name rs) ≡ refs_on f rs + hits f name
refs-with-named f None rs = omega arith
refs-with-named f (Some frame) rs = elim (same-or f frame.0) [
  | inl same ↦
      let one : from_bool (frame.0 == f) ≡ 1 = ap from_bool (same-number frame.0 f (sym same)) in
      let more : refs_on f (with_refs frame 1 rs) ≡ refs_on f rs + 1 = subst (λ (n : ℕ). refs_on n (with_refs frame 1 rs) ≡ refs_on n rs + 1) (sym same) (refs-with frame 1 rs) in
      omega arith
  | inr differs ↦
      let none : from_bool (frame.0 == f) ≡ 0 = ap from_bool (ne_eqb frame.0 f (λ e. differs (sym e))) in
      let as_many : refs_on f (with_refs frame 1 rs) ≡ refs_on f rs = refs-with-other frame 1 f rs differs in
      omega arith
]

refs-less-named : (f : ℕ) (name : Option Frame) (rs : List Ref) → refs_on f (less_named name rs) ≡ refs_on f rs - hits f name
refs-less-named f None rs = omega arith
refs-less-named f (Some frame) rs = elim (same-or f frame.0) [
  | inl same ↦
      let one : from_bool (frame.0 == f) ≡ 1 = ap from_bool (same-number frame.0 f (sym same)) in
      let fewer : refs_on f (less_refs frame 1 rs) ≡ refs_on f rs - 1 = subst (λ (n : ℕ). refs_on n (less_refs frame 1 rs) ≡ refs_on n rs - 1) (sym same) (refs-less frame 1 rs) in
      omega arith
  | inr differs ↦
      let none : from_bool (frame.0 == f) ≡ 0 = ap from_bool (ne_eqb frame.0 f (λ e. differs (sym e))) in
      let as_many : refs_on f (less_refs frame 1 rs) ≡ refs_on f rs = refs-less-other frame 1 f rs differs in
      omega arith
]

length-less-named : (name : Option Frame) (rs : List Ref) → length (less_named name rs) ≤ length rs
length-less-named None rs = omega arith
length-less-named (Some frame) rs = length-less frame 1 rs

-- the references after a word names the frame `new` in the place of `old`
abbrev pub renamed : Option Frame → Option Frame → List Ref → List Ref
renamed old new rs = with_named old (less_named new rs)

-- of those to `new` one is spent, and one stays
module _ (old new : Option Frame) (rs : List Ref) (spare : (frame : Frame) → new ≡ Some frame → 2 ≤ refs_on frame.0 rs) where
  spare-hits : (f : ℕ) → hits f new * 2 ≤ refs_on f rs
  spare-hits f = which new spare
    where
      which : (name : Option Frame) → ((frame : Frame) → name ≡ Some frame → 2 ≤ refs_on frame.0 rs) → hits f name * 2 ≤ refs_on f rs
      which None spare = omega arith
      which (Some frame) spare = elim (same-or frame.0 f) [
        | inl same ↦
            let one : from_bool (frame.0 == f) ≡ 1 = ap from_bool (same-number frame.0 f same) in
            let two : 2 ≤ refs_on f rs = subst (λ (n : ℕ). 2 ≤ refs_on n rs) same (spare frame refl) in
            omega arith
        | inr differs ↦ let none : from_bool (frame.0 == f) ≡ 0 = ap from_bool (ne_eqb frame.0 f differs) in omega arith
      ]

  less : (f : ℕ) → refs_on f (renamed old new rs) ≡ refs_on f rs - hits f new + hits f old
  less f =
      let with_old : refs_on f (renamed old new rs) ≡ refs_on f (less_named new rs) + hits f old = refs-with-named f old (less_named new rs) in
      let less_new : refs_on f (less_named new rs) ≡ refs_on f rs - hits f new = refs-less-named f new rs in
      omega arith

  pub refs-renamed : (f : ℕ) → refs_on f (renamed old new rs) + hits f new ≡ refs_on f rs + hits f old
  refs-renamed f = omega (arith, less f, spare-hits f)

  pub some-renamed : (f : ℕ) → 0 < refs_on f rs → 0 < refs_on f (renamed old new rs)
  some-renamed f some = omega (arith, some, less f, spare-hits f)

  -- no frame more is listed, where `old` was
  pub length-renamed : ((frame : Frame) → old ≡ Some frame → 0 < refs_on frame.0 rs) → length (renamed old new rs) ≤ length rs
  length-renamed listed = which old listed
    where
      which : (name : Option Frame) → ((frame : Frame) → name ≡ Some frame → 0 < refs_on frame.0 rs) → length (with_named name (less_named new rs)) ≤ length rs
      which None listed = length-less-named new rs
      which (Some frame) listed =
          let still : 0 < refs_on frame.0 (less_named new rs) = omega (arith, listed frame refl, refs-less-named frame.0 new rs, spare-hits frame.0) in
          let as_long : length (with_refs frame 1 (less_named new rs)) ≡ length (less_named new rs) = length-with-listed frame 1 (less_named new rs) still in
          let no_longer : length (less_named new rs) ≤ length rs = length-less-named new rs in
          omega arith

  -- nor are there too many references, where one more to `old` had room
  pub shares-renamed : (most : ℕ) → ((f : ℕ) → refs_on f rs ≤ most) → ((frame : Frame) → old ≡ Some frame → refs_on frame.0 rs + 1 ≤ most) → (f : ℕ) → refs_on f (renamed old new rs) ≤ most
  shares-renamed most few room f = which old room (less f)
    where
      which : (name : Option Frame) → ((frame : Frame) → name ≡ Some frame → refs_on frame.0 rs + 1 ≤ most) → refs_on f (renamed old new rs) ≡ refs_on f rs - hits f new + hits f name → refs_on f (renamed old new rs) ≤ most
      which None room is = omega (arith, few f, is)
      which (Some frame) room is = elim (same-or frame.0 f) [
        | inl same ↦
            let one : from_bool (frame.0 == f) ≤ 1 = hits-one f (Some frame) in
            let fits : refs_on f rs + 1 ≤ most = subst (λ (n : ℕ). refs_on n rs + 1 ≤ most) same (room frame refl) in
            omega (arith, is)
        | inr differs ↦ let none : from_bool (frame.0 == f) ≡ 0 = ap from_bool (ne_eqb frame.0 f differs) in omega (arith, few f, is)
      ]
