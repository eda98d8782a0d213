-- What a processor holds, as one value, and what each step makes of it.
use Rattle.std.specs.Prelude.{ℕ, ◌+◌, ◌-◌, ◌==◌, true, cond, List, [], ◌∷◌, ◌++◌, Option, Some, None, is_some, map, length, option_map, slice_set}
use Rattle.std.specs.List.{find}
use Rattle.hwp_page.specs.hwp_geom.declared.Frame.{Frame}
use Rattle.hwp_page.specs.hwp_geom.declared.Layout.{Layout}
use Rattle.hwp_page.specs.hwp_geom.declared.Page.{Page}
use Rattle.hwp_page.specs.hwp_geom.declared.Proc.{Proc}
use Rattle.hwp_words.specs.Names.{frame_name}
use Rattle.hwp_words.specs.Translations.{pte_word}
use Rattle.hwp_core_rule.specs.declared.view.FrameInHand.{FrameInHand}
use Rattle.hwp_core_rule.specs.declared.view.FrameLock.{FrameLock}
use Rattle.hwp_core_rule.specs.declared.view.InHand.{InHand}
use Rattle.hwp_core_rule.specs.declared.log.Log.{Log}
use Rattle.hwp_core_rule.specs.declared.view.PageLock.{PageLock}
use Rattle.hwp_core_rule.specs.declared.shared_word.SharedWord.{SharedWord}
use Rattle.hwp_core_rule.specs.declared.shared_word.SharedWord.TheVariants as places
use Rattle.hwp_core_rule.specs.declared.view.Ref.{Ref}
use Rattle.hwp_core_rule.specs.declared.step.Step.{Step}
use Rattle.hwp_core_rule.specs.declared.step.Step.TheVariants as steps
use Rattle.hwp_core_rule.specs.declared.view.View.{View}
use Rattle.hwp_core_rule.specs.Logs.{log_of}
use Rattle.hwp_core_rule.specs.Steps.{goes, is_last}
use Rattle.hwp_core_rule.specs.Views.{without, changed, with_refs, less_refs, with_named, less_named, frame_in, is_hand_of, hand_found, unpoisoned, is_lock_of, is_page_lock_of, is_body_of, lock_found, knowing, lock_of_page}

-- what a processor holds
pub record Hand : Type 0 where
  pub pages : List PageLock
  pub locks : List FrameLock
  pub refs : List Ref
  pub reserved : ℕ
  pub hands : List FrameInHand
  pub bodies : List InHand

abbrev pub hand_of : View → Hand
hand_of v = record { pages = v.pages; locks = v.locks; refs = v.refs; reserved = v.reserved; hands = v.hands; bodies = v.bodies }

abbrev pub empty : Hand
empty = record { pages = []; locks = []; refs = []; reserved = 0; hands = []; bodies = [] }

-- a body just taken, after so many sights
abbrev pub body_in : Option Frame → Log → ℕ → InHand
body_in frame log seen = record { log = log; since = length log.entries; frame = frame; from = seen; killed = [] }

abbrev pub taking : Layout → Option Frame → Option Log → ℕ → Hand → Hand
taking layout frame None seen h = h
taking layout frame (Some log) seen h = record h { bodies = h.bodies ++ body_in frame log seen ∷ []; pages = changed (is_page_lock_of log.page) (knowing layout log frame) h.pages }

abbrev pub listing_of : Log → Option InHand → Hand → Hand
listing_of log None h = h
listing_of log (Some body) h = record h { bodies = changed (is_body_of log.page) (λ (b : InHand). record b { log = log }) h.bodies }

abbrev pub listing : Log → Hand → Hand
listing log h = listing_of log (find (is_body_of log.page) h.bodies) h

abbrev pub putting : Option Log → Hand → Hand
putting None h = h
putting (Some log) h = record (listing log h) {
  bodies = without (is_body_of log.page) (listing log h).bodies;
  pages = changed (is_page_lock_of log.page) (λ (l : PageLock). record l { trans = None }) h.pages;
}

abbrev pub loading : SharedWord → ℕ → Hand → Hand
loading (places.Cache page) found h = record h { pages = changed (is_page_lock_of page) (λ (l : PageLock). record l { cache = Some found }) h.pages }
loading place found h = h

abbrev pub killing : Proc → Page → Hand → Hand
killing process page h = record h { bodies = changed (is_body_of page) (λ (b : InHand). record b { killed = b.killed ++ process ∷ [] }) h.bodies }

-- what a step makes of what is held: `seen` is how many sights there were, `content` what was in the slot that it took or put
abbrev pub hand_after : Layout → Step → ℕ → Option Log → ℕ → Hand → Hand
hand_after layout (steps.Load place) found content seen h = loading place found h
hand_after layout (steps.Reserve word) found content seen h = cond (found == word) (record h { reserved = h.reserved + 1 }) h
hand_after layout (steps.TakeBit frame) found content seen h =
    cond (goes (steps.TakeBit frame) found) (record h { reserved = h.reserved - 1; hands = h.hands ++ unpoisoned frame ∷ [] }) h
hand_after layout (steps.GiveBit frame) found content seen h = record h { reserved = h.reserved + 1; hands = without (is_hand_of frame) h.hands }
hand_after layout steps.Unreserve found content seen h = record h { reserved = h.reserved - 1 }
hand_after layout (steps.Adopt frame) found content seen h =
    record h { hands = without (is_hand_of frame) h.hands; refs = with_refs frame 1 h.refs; locks = h.locks ++ lock_found frame found ∷ [] }
hand_after layout (steps.GetRef frame word count) found content seen h = cond (found == word) (record h { refs = with_refs frame count h.refs }) h
hand_after layout (steps.PutRef frame count) found content seen h =
    record h { refs = less_refs frame count h.refs; hands = cond (is_last count found) (h.hands ++ hand_found frame found ∷ []) h.hands }
hand_after layout (steps.LockFrame frame) found content seen h =
    cond (goes (steps.LockFrame frame) found) (taking layout (Some frame) content seen (record h { locks = h.locks ++ lock_found frame found ∷ [] })) h
hand_after layout (steps.UnlockFrame frame) found content seen h = record (putting content h) { locks = without (is_lock_of frame) h.locks }
hand_after layout (steps.Retire frame) found content seen h = record h { locks = without (is_lock_of frame) h.locks; refs = less_refs frame 1 h.refs }
hand_after layout (steps.Revive frame word) found content seen h = cond (found == word) (record h { hands = h.hands ++ unpoisoned frame ∷ [] }) h
hand_after layout (steps.SetOwner frame page owned) found content seen h =
    record h { locks = changed (is_lock_of frame) (λ (l : FrameLock). record l { owner = cond owned (page.0 + 1) 0 }) h.locks }
hand_after layout (steps.LockPage page) found content seen h =
    cond (goes (steps.LockPage page) found)
    (taking layout None content seen (record h { pages = h.pages ++ lock_of_page layout page content (find (is_body_of page) h.bodies) ∷ [] }))
    h
hand_after layout (steps.UnlockPage page) found content seen h = record (putting content h) { pages = without (is_page_lock_of page) h.pages }
hand_after layout (steps.SetPte slot pte) found content seen h = record h {
  refs = with_named (frame_in found) (less_named (frame_in (pte_word pte)) h.refs);
  pages = map (λ (l : PageLock). record l { trans = option_map (λ (ws : List ℕ). slice_set ws slot.0 (pte_word pte)) l.trans }) h.pages;
}
hand_after layout (steps.SetCache page frame) found content seen h = record h {
  refs = with_named (frame_in found) (less_named frame h.refs);
  pages = changed (is_page_lock_of page) (λ (l : PageLock). record l { resident = is_some frame; cache = Some (frame_name frame) }) h.pages;
}
hand_after layout (steps.Poison frame hardware) found content seen h =
    record h { locks = changed (is_lock_of frame) (λ (l : FrameLock). record l { poisoned = true }) h.locks }
hand_after layout (steps.CountPoison hardware) found content seen h = h
hand_after layout steps.Uncount found content seen h = h
hand_after layout (steps.Spoil frame line damage) found content seen h = h
hand_after layout (steps.Stop cpu) found content seen h = h
hand_after layout steps.GiveUp found content seen h = h
hand_after layout (steps.Kill process page body) found content seen h = killing process page (listing (log_of body.value) h)
hand_after layout (steps.SetPolicy thread policy settings) found content seen h = h
hand_after layout (steps.Lose file body) found content seen h = listing (log_of body.value) h
hand_after layout (steps.ReportLost file) found content seen h = h
