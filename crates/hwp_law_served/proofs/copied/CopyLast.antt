-- The place that the answer of a copy names is that of its last store in the page: behind it stands the freeing alone.
use Rattle.std.proofs.Common.{◌≡◌, ◌⊎◌, inl, inr, ℕ, zero, suc, ◌+◌, ◌<◌, List, [], ◌∷◌, ◌++◌, Option, Some, length, slice_get, refl, sym, ap, ◌∙◌, subst, arith}
use Rattle.std.specs.Prelude.{false}
use Rattle.std.proofs.lemmas.Option.{none-some, same_Some}
use Rattle.hwp_law.specs.hwp_geom.declared.Cpu.{Cpu}
use Rattle.hwp_law.specs.hwp_geom.declared.Page.{Page}
use Rattle.hwp_law.specs.hwp_geom.declared.VSlot.{VSlot}
use Rattle.hwp_law.specs.hwp_geom.declared.Who.{Who}
use Rattle.hwp_law.specs.hwp_page.declared.At.{At}
use Rattle.hwp_law.specs.hwp_page.declared.Entry.{Entry}
use Rattle.hwp_law.specs.hwp_page.declared.What.TheVariants as entries
use Rattle.hwp_plain.specs.hwp_core_rule.declared.Made.{Made}
use Rattle.hwp_plain.specs.hwp_core_rule.declared.State.{State}
use Rattle.hwp_plain.specs.hwp_core_rule.declared.View.{View}
use Rattle.hwp_plain.specs.hwp_core_rule.Boards.{view_of}
use Rattle.hwp_plain.specs.hwp_core_rule.Known.{deeds, is_by}
use Rattle.hwp_law.specs.hwp_script_words.declared.Command.{Command}
use Rattle.hwp_law.specs.hwp_script_words.declared.Command.TheVariants as commands
use Rattle.hwp_law.specs.hwp_script_words.declared.Script.{Script}
use Rattle.hwp_law.specs.hwp_report_text.declared.Answer.TheVariants as answers
use Rattle.hwp_law.specs.hwp_report_text.declared.Report.{Report}
use Rattle.hwp_law.specs.Copies.{AreLastStores, is_store}
use Rattle.hwp_law.specs.Lines.{answer_of}
use Rattle.hwp_law_served.proofs.Reported.{entry-listed}
use Rattle.hwp_law_served.specs.Causes.{IsCausedWith}
use Rattle.hwp_law_served.specs.Copied.{store_by}
use Rattle.hwp_law_served.proofs.RowLines.{answer-told}
use Rattle.hwp_law_served.proofs.RunEnds.{IsEnd, IsOf, filter-has, of-made, own-view}
use Rattle.hwp_law_served.proofs.marks.Marked.{same-self}
use Rattle.hwp_law_served.proofs.copied.MadeOrder.{IsInOrder, split-at}
use Rattle.hwp_law_served.proofs.copied.OwnIn.{deeds-order}
use Rattle.hwp_law_served.proofs.copied.StoredLast.{stored-last}

at-seam : (front : List Made) (x : Made) (behind : List Made) → slice_get (front ++ x ∷ behind) (length front) ≡ Some x
at-seam [] x behind = refl
at-seam (y ∷ ys) x behind = at-seam ys x behind

-- of entries in order, one in the page of another at a higher place stands behind it
stands-behind : (front : List Made) (x : Made) (behind : List Made) → IsInOrder (front ++ x ∷ behind) → (p : ℕ) (m : Made) → slice_get (front ++ x ∷ behind) p ≡ Some m → m.page ≡ x.page → x.place < m.place → (q : ℕ) × (slice_get behind q ≡ Some m)
stands-behind front x behind order p m there same above = which (split-at front (x ∷ behind) p m there)
  where
    second : (j : ℕ) → slice_get (x ∷ behind) j ≡ Some m → (q : ℕ) × (slice_get behind q ≡ Some m)
    second zero here = let is : x.place ≡ m.place = ap (λ (y : Made). y.place) (same_Some x m here) in absurd (omega (arith, is, above))
    second (suc j) here = (j, here)

    which : ((p < length front) × (slice_get front p ≡ Some m)) ⊎ ((j : ℕ) × (p ≡ length front + j) × (slice_get (x ∷ behind) j ≡ Some m)) → (q : ℕ) × (slice_get behind q ≡ Some m)
    which (inl first) = let less : m.place < x.place = order p (length front) m x first.0 there (at-seam front x behind) same in absurd (omega (arith, less, above))
    which (inr later) = second later.0 later.2

-- what stands behind the last store is none
free-behind : (page : Page) (from : VSlot) (behind : List Made) → (behind ≡ []) ⊎ ((f : Made) × (behind ≡ f ∷ []) × (f.page ≡ page) × (f.entry.what ≡ entries.Free from)) → (q : ℕ) (m : Made) → slice_get behind q ≡ Some m → is_store m.entry.what ≡ false
free-behind page from behind (inl none) q m there = absurd (none-some m (sym (ap (λ (l : List Made). slice_get l q) none) ∙ there))
free-behind page from behind (inr (f, one, its, what)) q m there = which q (sym (ap (λ (l : List Made). slice_get l q) one) ∙ there)
  where
    which : (k : ℕ) → slice_get (f ∷ []) k ≡ Some m → is_store m.entry.what ≡ false
    which zero here = ap (λ (x : Made). is_store x.entry.what) (sym (same_Some f m here)) ∙ ap is_store what
    which (suc k) here = absurd (none-some m here)

module _ (script : Script) (copies : Who → Option VSlot) (seat : Cpu → ℕ) (last : State) (report : Report) (end : IsEnd script copies seat last report) where
  last-of : (who : Who) (from : VSlot) (at : At) (of : IsOf script copies end.rows (view_of last (seat who.cpu)) who) → copies who ≡ Some from → answer_of report who ≡ Some (answers.Stored at)
      → (p : ℕ) (m : Made) → slice_get (deeds who (view_of last (seat who.cpu))) p ≡ Some m → m.page ≡ at.page → at.entry < m.place → is_store m.entry.what ≡ false
  last-of who from at of copied answered p m there same above = which of.command (subst (IsCausedWith script.layout of.earlier (Some from) (view_of last (seat who.cpu)) who of.command of.before of.row.told of.row.own) answer_is
      (subst (λ (o : Option VSlot). IsCausedWith script.layout of.earlier o (view_of last (seat who.cpu)) who of.command of.before of.row.told of.row.own of.row.answer) copied of.served.caused))
    where
      answer_is : of.row.answer ≡ answers.Stored at
      answer_is = same_Some of.row.answer (answers.Stored at) (sym (answer-told script copies seat last report end (view_of last (seat who.cpu)) who of) ∙ answered)

      behind : (page : Page) (from_slot : VSlot) (front : List Made) (x : Made) (rest : List Made) → deeds who (view_of last (seat who.cpu)) ≡ front ++ x ∷ rest → x.page ≡ at.page → x.place ≡ at.entry
          → (rest ≡ []) ⊎ ((f : Made) × (rest ≡ f ∷ []) × (f.page ≡ page) × (f.entry.what ≡ entries.Free from_slot)) → is_store m.entry.what ≡ false
      behind page from_slot front x rest all page_is place_is freed =
          let found = stands-behind front x rest (subst IsInOrder all (deeds-order script copies seat last report end who of.inside)) p m (sym (ap (λ (l : List Made). slice_get l p) all) ∙ there) (same ∙ sym page_is) (omega (arith, place_is, above)) in
          free-behind page from_slot rest freed found.0 m found.1

      which : (command : Command) → IsCausedWith script.layout of.earlier (Some from) (view_of last (seat who.cpu)) who command of.before of.row.told of.row.own (answers.Stored at) → is_store m.entry.what ≡ false
      which (commands.Store thread to line word) caused =
          let stored = stored-last script.layout (view_of last (seat who.cpu)) (store_by who thread to line word caused.page caused.process) from word of.before caused.has at caused.ended.1 in
          behind caused.has.page from stored.front stored.last stored.behind stored.all (stored.stands.0 ∙ sym stored.page_is) stored.stands.1 stored.freed
      which command caused = absurd caused

  pub last-stores : AreLastStores copies report
  last-stores who from at copied answered later e is own same above =
      let one = entry-listed script.layout last report end.board later e is in
      let made = one.3 in
      let m : Made = made.1 in
      let that = made.3 in
      let its : m.entry.who ≡ who = ap (λ (x : Entry). x.who) that.entry_is ∙ own in
      let owned = own-view script copies seat last report end one.0 one.1 m.entry.who one.2 ((end.board.holds.rule.processors.commands.own one.0 one.1 one.2).made made.0 m made.2) in
      let its_view : one.1 ≡ view_of last (seat who.cpu) = owned.1 ∙ ap (λ (w : Who). view_of last (seat w.cpu)) its in
      let of : IsOf script copies end.rows (view_of last (seat who.cpu)) who = subst (IsOf script copies end.rows (view_of last (seat who.cpu))) its
      (subst (λ (v : View). IsOf script copies end.rows v m.entry.who) its_view (of-made script copies seat last report end one.0 made.0 one.1 m one.2 made.2)) in
      let listed = filter-has (is_by who) (view_of last (seat who.cpu)).made made.0 m (sym (ap (λ (v : View). slice_get v.made made.0) its_view) ∙ made.2) (same-self who m.entry.who its) in
      sym (ap (λ (x : Entry). is_store x.what) that.entry_is) ∙ last-of who from at of copied answered listed.0 m listed.1 (that.page_is ∙ same) (subst (λ (n : ℕ). at.entry < n) (sym that.place_is) above)
