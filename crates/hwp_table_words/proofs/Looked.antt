-- What a look tells: the word that the load finds, where an entry of the translation answers it.
use Rattle.std.proofs.Common.{◌≡◌, ℕ, ◌+◌, ◌*◌, ◌≤◌, List, slice_get, refl, sym, ap, subst}
use Rattle.std.specs.Prelude.{Option, Some, None, IfSome}
use Rattle.atomic_table.specs.Seated.{TableId}
use Rattle.hwp_core_rule.specs.hwp_geom.declared.Frame.{Frame}
use Rattle.hwp_core_rule.specs.hwp_geom.declared.Layout.{Layout}
use Rattle.hwp_core_rule.specs.hwp_geom.declared.VSlot.{VSlot}
use Rattle.hwp_core_rule.specs.hwp_geom.declared.Who.{Who}
use Rattle.hwp_core_rule.specs.declared.Step.{Step}
use Rattle.hwp_core_rule.specs.declared.View.{View}
use Rattle.hwp_core_rule.specs.Calls.{CanMake}
use Rattle.hwp_table_words.specs.tlb.Steps.{IsGuarded}
use Rattle.hwp_table_words.specs.tlb.Words.{hit_of}
use Rattle.hwp_table_words.specs.CachePlays.{CanLook, HasFound, IsHit, IsLooked, Look}
use Rattle.hwp_table_words.specs.Caches.{HasLooked, IsAtTable, call_of, load_of, word_to}
use Rattle.hwp_table_words.specs.Plays.{Call}
use Rattle.hwp_table_words.specs.Seats.{HasRight, IsSeat, cpu_of, mine_of}
use Rattle.hwp_table_words.specs.Stands.{Content, Me, first_me}

-- a load puts no body home
load-can : (layout : Layout) (who : Who) (slot : VSlot) (v : View) (body : Content) → CanMake layout who (load_of slot) body v → CanMake layout who (load_of slot) None v
load-can layout who slot v body can = subst (λ (b : Content). CanMake layout who (load_of slot) b v) can.goes_home can

-- what is told of an answer holds whatever it is
pub some-load : (answer : Option ℕ) (step : Step) (slot : VSlot) → step ≡ load_of slot → IfSome answer (λ (found : ℕ). (s : VSlot) × (step ≡ load_of s))
some-load None step slot is = tt
some-load (Some n) step slot is = (slot, is)

module _ (ways : ℕ) (layout key : Layout) (id of : TableId) (m : Me) (order : List ℕ) (seat : IsSeat ways layout key id of (first_me m) order) where
  pub at-table : ways ≤ 16 → IsAtTable ways layout key id of
  at-table few = record { few = few; key_is = seat.key_is; table = seat.table; same = seat.same }

  module _ (who : Who) (slot : VSlot) (place : ℕ) where
    abbrev look : Look
    look = record { call = call_of (ways * key.cpus) key who (load_of slot) m; slot = slot; place = place }

    pub can-look : (step : Step) (body : Content) → step ≡ load_of slot → IsGuarded (ways * layout.cpus) (mine_of m.0.known.mines) m.0.caching → HasRight m.0.known → CanMake layout who step body (mine_of m.0.known.mines) → CanLook ways key look m
    can-look step body is guarded right can = record {
      layout_is = refl;
      places = refl;
      step_is = refl;
      put_is = refl;
      view = (0, (cpu_of m.0.known.mines, mine_of m.0.known.mines), ap (λ (l : List (ℕ × View)). slice_get l 0) seat.one, refl);
      right = right;
      guarded = subst (λ (k : Layout). IsGuarded (ways * k.cpus) (mine_of m.0.known.mines) m.0.caching) (sym seat.key_is) guarded;
      can = subst (λ (k : Layout). CanMake k who (load_of slot) None (mine_of m.0.known.mines)) (sym seat.key_is)
          (load-can layout who slot (mine_of m.0.known.mines) body (subst (λ (t : Step). CanMake layout who t body (mine_of m.0.known.mines)) is can));
    }

    pub has-looked : (step : Step) (word entry : ℕ) (result : Option ℕ) (n : Me) → step ≡ load_of slot → IsLooked look word m entry n → result ≡ word_to (hit_of slot entry) → HasLooked (ways * layout.cpus) layout who step m result n
    has-looked step word entry result n is looked told = subst (λ (o : Option ℕ). HasLooked (ways * layout.cpus) layout who step m o n) (sym told) (by-hit (hit_of slot entry) looked.1)
      where
        call-is : look.call ≡ call_of (ways * layout.cpus) layout who step m
        call-is = λ i. call_of (ways * (seat.key_is i).cpus) (seat.key_is i) who (sym is i) m

        by-hit : (o : Option Frame) → HasFound look.call m o n → HasLooked (ways * layout.cpus) layout who step m (word_to o) n
        by-hit None same = same
        by-hit (Some f) hit = subst (λ (c : Call). IsHit c m (f.0 + 1) n) call-is hit
