-- The rule of translation caches: an entry leads where the translation leads, and each seat is right in what it knows.
use Rattle.std.specs.Prelude.{◌≡◌, ◌⊎◌, ℕ, ◌+◌, ◌*◌, ◌%◌, ◌^◌, ◌<◌, ◌≤◌, ◌==◌, true, false, List, [], ◌∷◌, ◌++◌, Some, length, map, slice_get}
use Rattle.std.specs.List.{sum_by}
use Rattle.std.specs.Int.{from_bool}
use Rattle.hwp_core_rule.specs.hwp_geom.declared.Layout.{Layout}
use Rattle.hwp_core_rule.specs.hwp_words.Frames.{count_of, handled_of}
use Rattle.hwp_core_rule.specs.declared.FrameLock.{FrameLock}
use Rattle.hwp_core_rule.specs.declared.State.{State}
use Rattle.hwp_core_rule.specs.declared.View.{View}
use Rattle.hwp_core_rule.specs.Lists.{EachMember}
use Rattle.hwp_core_rule.specs.Words.{words_of}
use Rattle.hwp_table_words.specs.tlb.Caching.{Caching, Cleared, Glimpse, Shown}
use Rattle.hwp_table_words.specs.tlb.Words.{entry_word, is_of}

-- the frames of locks
abbrev pub frames_of : List FrameLock → List ℕ
frames_of locks = map (λ (l : FrameLock). l.frame.0) locks

-- the frames of the locks that a seat's views list, each view with the number of its processor
abbrev pub locks_in : List (ℕ × View) → List ℕ
locks_in [] = []
locks_in (x ∷ xs) = frames_of x.1.locks ++ locks_in xs

-- how often the number is in the list
abbrev pub times : ℕ → List ℕ → ℕ
times n list = sum_by (λ (m : ℕ). from_bool (m == n)) list

-- An entry that is not 0 is of a translation whose word leads to the entry's frame, and stands in the place of that
-- translation. Broken by: a fill of a translation that has changed; a translation cleared whose entry stays.
pub record Leads (ways : ℕ) (trans : List ℕ) (place word : ℕ) : Type 0 where
  pub slot : ℕ
  pub frame : ℕ
  pub word_is : word ≡ entry_word slot frame
  pub fits : frame < 2 ^ 16
  pub place_is : place % ways ≡ slot % ways
  pub leads : slice_get trans slot ≡ Some (frame + 1)

-- A seat that has cleared entries of a frame has the frame's lock, and none of them names the frame. Broken by: a fill without
-- the frame's lock; a sweep that leaves out an entry.
pub record IsCleared (entries locks : List ℕ) (c : Cleared) : Type 0 where
  pub locked : 0 < c.upto → 0 < times c.frame locks
  pub none : (i w : ℕ) → i < c.upto → slice_get entries i ≡ Some w → is_of c.frame w ≡ false

-- an entry that named a frame whose lock the seat has is as it was, or names another frame
pub record IsGlimpsed (entries locks : List ℕ) (g : Glimpse) : Type 0 where
  pub locked : 0 < times g.frame locks
  pub now : (w : ℕ) → slice_get entries g.place ≡ Some w → (w ≡ g.word) ⊎ (is_of g.frame w ≡ false)

-- a translation that led to a frame whose lock the seat has still does
pub record IsShown (trans locks : List ℕ) (s : Shown) : Type 0 where
  pub locked : 0 < times s.frame locks
  pub leads : slice_get trans s.slot ≡ Some (s.frame + 1)

-- a seat is right in what it knows
pub record Knows (trans entries locks : List ℕ) (k : Caching) : Type 0 where
  pub cleared : EachMember (IsCleared entries locks) k.cleared
  pub glimpse : (g : Glimpse) → k.glimpse ≡ Some g → IsGlimpsed entries locks g
  pub shown : (s : Shown) → k.shown ≡ Some s → IsShown trans locks s

-- a seat: the views that it has, each with its processor, and what it knows of the caches
abbrev pub Seat : Type 0
Seat = List (ℕ × View) × Caching

-- the rule of the caches: each processor has so many entries, each entry leads where its translation does, and each seat is right
pub record CachesAgree (ways : ℕ) (layout : Layout) (s : State) (entries : List ℕ) (seats : List Seat) : Type 0 where
  pub count : length entries ≡ ways * layout.cpus
  pub lead : (i w : ℕ) → slice_get entries i ≡ Some w → (w ≡ 0) ⊎ Leads ways (words_of layout s.words).trans i w
  pub knows : EachMember (λ (x : Seat). Knows (words_of layout s.words).trans entries (locks_in x.0) x.1) seats

-- how often a seat has the view of a processor
abbrev pub views_for : ℕ → List (ℕ × View) → ℕ
views_for c mines = sum_by (λ (x : ℕ × View). from_bool (x.0 == c)) mines

-- the views that seats have are those of the state, and the view of a processor is in one seat at most
pub record HaveViews (s : State) (seats : List Seat) : Type 0 where
  pub mines : EachMember (λ (x : Seat). EachMember (λ (y : ℕ × View). slice_get s.views y.0 ≡ Some y.1) x.0) seats
  pub one_view : (c : ℕ) → sum_by (λ (x : Seat). views_for c x.0) seats ≤ 1

-- a frame in use: it is not handled, and something refers to it
pub record IsInUse (frames : List ℕ) (f : ℕ) : Type 0 where
  pub word : ℕ
  pub there : slice_get frames f ≡ Some word
  pub unhandled : handled_of word ≡ 0
  pub counted : 0 < count_of word

-- no entry names a frame that is handled, or that nothing refers to
abbrev pub NamesInUse : Layout → State → List ℕ → Type 0
NamesInUse layout s entries = (i w f : ℕ) → slice_get entries i ≡ Some w → is_of f w ≡ true → IsInUse (words_of layout s.words).frames f
