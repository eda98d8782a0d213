-- A step of a seat: an entry answers it, or it is made as a move of the frame rule, which a fill or a sweep follows.
use Rattle.std.proofs.Common.{◌≡◌, ℕ, ◌+◌, ◌-◌, ◌*◌, ◌^◌, ◌<◌, ◌≤◌, Bool, true, false, cond, List, [], ◌∷◌, ◌++◌, min, map, length, inl, inr, refl, sym, ap, ◌∙◌, subst}
use Rattle.std.specs.Prelude.{None}
use Rattle.std.proofs.lemmas.Bool.{true≢false}
use Rattle.std.proofs.lemmas.Option.{none-some}
use Rattle.atomic_table.specs.Seated.{TableId}
use Rattle.hwp_core_rule.specs.hwp_geom.declared.Frame.{Frame}
use Rattle.hwp_core_rule.specs.hwp_geom.declared.Layout.{Layout}
use Rattle.hwp_core_rule.specs.hwp_geom.declared.Page.{Page}
use Rattle.hwp_core_rule.specs.hwp_geom.declared.VSlot.{VSlot}
use Rattle.hwp_core_rule.specs.hwp_geom.declared.Who.{Who}
use Rattle.hwp_core_rule.specs.declared.Rec.{Rec}
use Rattle.hwp_core_rule.specs.declared.SharedWord.{SharedWord}
use Rattle.hwp_core_rule.specs.declared.SharedWord.TheVariants as shared
use Rattle.hwp_core_rule.specs.declared.Step.{Step}
use Rattle.hwp_core_rule.specs.declared.Step.TheVariants as steps
use Rattle.hwp_core_rule.specs.declared.View.{View}
use Rattle.hwp_core_rule.specs.Moves.{Told}
use Rattle.hwp_core_rule.specs.SlotMoves.{slot_move, takes}
use Rattle.hwp_core_rule.specs.Steps.{goes}
use Rattle.hwp_core_rule.specs.Views.{locks_on, noted, view_after}
use Rattle.hwp_core_rule.specs.Calls.{CanMake, GoesHome, Steps, logs, rec_of}
use Rattle.hwp_core_rule.proofs.Lists.{same-number}
use Rattle.hwp_table_words.specs.declared.counts.TlbCounts.{TlbCounts}
use Rattle.hwp_table_words.specs.tlb.Caching.{Caching, upto_of}
use Rattle.hwp_table_words.specs.tlb.Rule.{frames_of}
use Rattle.hwp_table_words.specs.tlb.Steps.{IsGuarded, caching_after}
use Rattle.hwp_table_words.proofs.tlb.LockSlots.{locks-after, locks_then, pages-after, pages_of, pages_then}
use Rattle.hwp_table_words.specs.CacheCounts.{capped, told_counts}
use Rattle.hwp_table_words.specs.CachePlays.{IsHit, with_caching}
use Rattle.hwp_table_words.specs.Caches.{IsAlmostGuarded, IsListed, IsToSweep, call_of, follow_of, load_of}
use Rattle.hwp_table_words.specs.declared.follow.Follow.TheVariants as follows
use Rattle.hwp_table_words.specs.Known.{Known, mine_after, times}
use Rattle.hwp_table_words.specs.Plays.{Call, Makes, carried, rec}
use Rattle.hwp_table_words.specs.Seats.{HasCache, IsSeat, Moves, SeatValue, cpu_of, mine_of, slots_of, value_of}
use Rattle.hwp_table_words.specs.Stands.{Content, FirstMe, Me, first_me}
use Rattle.hwp_table_words.proofs.Guarded.{almost-guarded, lock-taken}
use Rattle.hwp_table_words.proofs.Sweeps.{one-more}

-- a load takes no lock
abbrev loads : Step → Bool
loads (steps.Load place) = true
loads step = false

listed-load : (place : SharedWord) (found : ℕ) (v : View) → IsListed (follow_of (steps.Load place) found) v
listed-load (shared.Trans slot) found v = tt
listed-load place found v = tt

-- what a lock of a frame that went leaves to be swept is listed
listed-after : (step : Step) (found : ℕ) (v : View) → ((frame : Frame) → step ≡ steps.LockFrame frame → goes step found ≡ true → 0 < locks_on frame.0 v.locks) → IsListed (follow_of step found) v
listed-after (steps.LockFrame frame) found v taken = which (goes (steps.LockFrame frame) found) refl
  where
    which : (b : Bool) → goes (steps.LockFrame frame) found ≡ b → IsListed (cond b (follows.Sweep frame) follows.Nothing) v
    which true went = taken frame refl went
    which false other = tt
listed-after (steps.LockPage page) found v taken = which (goes (steps.LockPage page) found)
  where
    which : (b : Bool) → IsListed (cond b follows.SweepAll follows.Nothing) v
    which true = tt
    which false = tt
listed-after (steps.Load place) found v taken = listed-load place found v
listed-after step found v taken = tt

-- a seat that nothing was done to is guarded as before
pub guarded-on : {places : ℕ} {m n : Me} → n ≡ m → IsGuarded places (mine_of m.0.known.mines) m.0.caching → IsGuarded places (mine_of n.0.known.mines) n.0.caching
guarded-on {places} same guarded = subst (λ (m : Me). IsGuarded places (mine_of m.0.known.mines) m.0.caching) (sym same) guarded

module _ (ways : ℕ) (layout key : Layout) (id of : TableId) (me : Me) (order : List ℕ) (is : IsSeat ways layout key id of (first_me me) order) (who : Who) (step : Step) (body : Content)
    (guarded : IsGuarded (ways * layout.cpus) (mine_of me.0.known.mines) me.0.caching) (can : CanMake layout who step body (mine_of me.0.known.mines)) where
  abbrev c : ℕ
  c = cpu_of me.0.known.mines

  abbrev view : View
  view = mine_of me.0.known.mines

  -- an entry answered the load
  module _ (found : ℕ) (then : Me) (now : TableId) (same : now ≡ of) (hits : IsHit (call_of (ways * layout.cpus) layout who step me) me found then) (slot : VSlot) (load : step ≡ load_of slot) where
    abbrev call : Call
    call = call_of (ways * layout.cpus) layout who step me

    abbrev made : Makes call (first_me me) found (first_me then)
    made = hits.makes

    abbrev r : Rec
    r = rec call found made.got

    none : made.got ≡ None
    none = made.none (ap (λ (s : Step). takes layout s found) load)

    empty : body ≡ None
    empty = subst (λ (s : Step). GoesHome s body) load can.goes_home

    rec-is : r ≡ rec_of layout who step (logs body) found None
    rec-is = λ i. rec_of layout who step (logs (sym empty i)) found (none i)

    slots-is : then.1 ≡ me.1
    slots-is = made.slots ∙ ap (λ (s : Step). carried (slot_move layout s found) made.got me.1) load

    mines-is : then.0.known.mines ≡ (c, view_after layout r view) ∷ []
    mines-is = ap (λ (v : Known). v.mines) made.known ∙ ap (map (mine_after layout c r)) is.one ∙ ap (λ (b : Bool). (c, cond b (view_after layout r view) view) ∷ []) (same-number c c refl)

    view-is : mine_of then.0.known.mines ≡ view_after layout r view
    view-is = ap mine_of mines-is

    slots-same : slots_of layout (mine_of then.0.known.mines) ≡ slots_of layout view
    slots-same = ap (slots_of layout) view-is ∙ (λ i. (locks-after layout who step found r.content (noted who view) ∙ ap (λ (s : Step). locks_then s found (frames_of view.locks)) load) i ++ map (λ (q : ℕ). layout.frames + q) ((pages-after layout who step found r.content (noted who view) ∙ ap (λ (s : Step). pages_then s found (pages_of view.pages)) load) i))

    pub seat-hit : IsSeat ways layout key id now (first_me then) order
    seat-hit = record {
      key_is = is.key_is;
      table = is.table;
      same = same ∙ is.same;
      one = subst (λ (l : List (ℕ × View)). l ≡ (cpu_of l, mine_of l) ∷ []) (sym mines-is) refl;
      carries = record {
        empty = slots-is ∙ is.carries.empty;
        same = λ n. is.carries.same n ∙ ap (times n) (sym slots-same);
        few = is.carries.few ∙ ap (λ (l : List ℕ). length l) (sym slots-same);
      };
    }

    told-hit : Told layout (rec_of layout who step (logs body) found None) view (mine_of then.0.known.mines)
    told-hit = subst (λ (q : Rec). Told layout q view (mine_of then.0.known.mines)) rec-is (subst (Told layout r view) (sym view-is) made.told)

    pub steps-hit : Steps layout who step (logs body) view (mine_of then.0.known.mines) found None
    steps-hit = record { told = told-hit; brings = record { none = λ e. refl; layout_is = λ b e. absurd (none-some b e); kept = λ b e. absurd (none-some b e) } }

    pub moves-hit : Moves (value_of id layout me.0) (rec_of layout who step (logs body) found None) (value_of id layout then.0)
    moves-hit = subst (λ (q : Rec). Moves (value_of id layout me.0) q (value_of id layout then.0)) rec-is (record {
      next = λ i. record { table = id; layout = layout; known = made.known i; caching = then.0.caching };
      found = made.whole;
    })

    no-lock : (s : Step) → step ≡ s → loads s ≡ false → ⊥
    no-lock s e other = true≢false (sym (ap loads load) ∙ ap loads e ∙ other)

    pub guard-hit : IsGuarded (ways * layout.cpus) (mine_of then.0.known.mines) then.0.caching
    guard-hit some f listed = elim (almost-guarded layout (rec_of layout who step (logs body) found None) view (mine_of then.0.known.mines) told-hit (ways * layout.cpus) me.0.caching (frames_of view.locks) (λ g. ⊥) guarded
        (λ frame e went. no-lock (steps.LockFrame frame) e refl) (λ page e went g less. no-lock (steps.LockPage page) e refl) some f listed) [
          | inl bad ↦ absurd bad
          | inr far ↦ subst (λ (k : Caching). ways * layout.cpus ≤ upto_of f k.cleared) (sym hits.caching) far
        ]

    pub cache-hit : (counts : TlbCounts) (n : ℕ) → counts ≡ told_counts me.0.caching.counts → n ≡ min (counts.hits + 1) (2 ^ 64 - 1) → HasCache (ways * layout.cpus) (record counts { hits = n }) then.0
    cache-hit counts n counted one = record {
      guarded = guard-hit;
      counted = (λ i. record { hits = hits-are i; fills = (counted i).fills; flushes = (counted i).flushes }) ∙ ap (λ (k : Caching). told_counts k.counts) (sym hits.caching);
    }
      where
        hits-are : n ≡ capped (me.0.caching.counts.hits + 1)
        hits-are = one ∙ ap (λ (t : TlbCounts). min (t.hits + 1) (2 ^ 64 - 1)) counted ∙ one-more me.0.caching.counts.hits 1

-- the step was made as a move
module _ (ways : ℕ) (layout key : Layout) (id : TableId) (me : Me) (who : Who) (step : Step) (body : Content) (guarded : IsGuarded (ways * layout.cpus) (mine_of me.0.known.mines) me.0.caching) where
  abbrev before : View
  before = mine_of me.0.known.mines

  module _ (met : Me) (now : TableId) (slots : List ℕ) (seat : IsSeat ways layout key id now (first_me met) slots) (found : ℕ) (got : Content) (told : Steps layout who step (logs body) before (mine_of met.0.known.mines) found got)
      (moved : Moves (value_of id layout me.0) (rec_of layout who step (logs body) found got) (value_of id layout met.0))
      (caching : met.0.caching ≡ caching_after (ways * layout.cpus) step found (frames_of before.locks) me.0.caching) where
    abbrev s : Rec
    s = rec_of layout who step (logs body) found got

    pub guard-met : IsAlmostGuarded (ways * layout.cpus) layout.frames (follow_of step found) (mine_of met.0.known.mines) met.0.caching
    guard-met = subst (λ (k : Caching). IsAlmostGuarded (ways * layout.cpus) layout.frames (follow_of step found) (mine_of met.0.known.mines) k) (sym caching)
        (almost-guarded layout s before (mine_of met.0.known.mines) told.told (ways * layout.cpus) me.0.caching (frames_of before.locks) (IsToSweep layout.frames (follow_of step found)) guarded by-frame by-page)
      where
        by-frame : (frame : Frame) → step ≡ steps.LockFrame frame → goes step found ≡ true → IsToSweep layout.frames (follow_of step found) frame.0
        by-frame frame e went = subst (λ (t : Step). IsToSweep layout.frames (follow_of t found) frame.0) (sym e)
            (subst (λ (b : Bool). IsToSweep layout.frames (cond b (follows.Sweep frame) follows.Nothing) frame.0) (sym (ap (λ (t : Step). goes t found) (sym e) ∙ went)) refl)

        by-page : (page : Page) → step ≡ steps.LockPage page → goes step found ≡ true → (f : ℕ) → f < layout.frames → IsToSweep layout.frames (follow_of step found) f
        by-page page e went f less = subst (λ (t : Step). IsToSweep layout.frames (follow_of t found) f) (sym e)
            (subst (λ (b : Bool). IsToSweep layout.frames (cond b follows.SweepAll follows.Nothing) f) (sym (ap (λ (t : Step). goes t found) (sym e) ∙ went)) less)

    pub listed-met : IsListed (follow_of step found) (mine_of met.0.known.mines)
    listed-met = listed-after step found (mine_of met.0.known.mines) (lock-taken layout s before (mine_of met.0.known.mines) told.told)

    -- and what follows it leaves the seat as it was, but for what it knows of the caches
    module _ (last : Me) (at : TableId) (same : at ≡ now) (rest : last ≡ with_caching last.0.caching met) where
      pub seat-last : IsSeat ways layout key id at (first_me last) slots
      seat-last = subst (λ (m : FirstMe). IsSeat ways layout key id at m slots) (sym (ap first_me rest)) (record { key_is = seat.key_is; table = seat.table; same = same ∙ seat.same; one = seat.one; carries = seat.carries })

      pub moves-last : Moves (value_of id layout me.0) s (value_of id layout last.0)
      moves-last = record {
        next = λ i. record { table = id; layout = layout; known = (ap (λ (m : Me). m.0.known) rest ∙ ap (λ (v : SeatValue). v.known) moved.next) i; caching = last.0.caching };
        found = moved.found;
      }
