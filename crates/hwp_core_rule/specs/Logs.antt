-- What a body's history says: the page's state, the losses of its file, the translation words that fit it.
use Rattle.std.specs.Prelude.{ℕ, ◌==◌, Bool, cond, List, [], ◌∷◌, Option, Some, None, suc, slice_get, option_and_then}
use Rattle.std.specs.FinSet as set
use Rattle.hwp_page.specs.hwp_geom.declared.FileNo.{FileNo}
use Rattle.hwp_page.specs.hwp_geom.declared.Layout.{Layout}
use Rattle.hwp_page.specs.hwp_geom.declared.Page.{Page}
use Rattle.hwp_page.specs.hwp_geom.declared.PageKind.{PageKind}
use Rattle.hwp_page.specs.hwp_geom.declared.PageKind.TheVariants.{Anon}
use Rattle.hwp_page.specs.hwp_geom.declared.TransDecl.{TransDecl}
use Rattle.hwp_page.specs.hwp_geom.Layout.{is_locked}
use Rattle.hwp_page.specs.declared.PageState.{PageState}
use Rattle.hwp_page.specs.History.{BodyValue, state_after}
use Rattle.hwp_page.specs.Losses.{file_behind, is_same_file, losses_in}
use Rattle.hwp_page.specs.Step.{opening_of}
use Rattle.hwp_words.specs.declared.Pte.TheVariants as ptes
use Rattle.hwp_words.specs.Translations.{pte_word}
use Rattle.hwp_core_rule.specs.declared.log.Log.{Log}

-- the history of a body
abbrev pub log_of : BodyValue → Log
log_of body = record { page = body.page; entries = body.log }

-- the state at opening of a page that is declared so, locked or not
abbrev pub opening_at : Option PageKind → Bool → PageState
opening_at None locked = opening_of Anon locked
opening_at (Some kind) locked = opening_of kind locked

-- the state of the page: the replay of its history
abbrev pub state_of : Layout → Log → PageState
state_of layout log = state_after (opening_at (slice_get layout.pages log.page.0) (is_locked layout log.page)) log.entries

-- the file behind a page
abbrev pub file_of : Layout → Page → Option FileNo
file_of layout page = option_and_then file_behind (slice_get layout.pages page.0)

-- the losses of the file in a history
abbrev pub losses_of : Layout → FileNo → Log → ℕ
losses_of layout file log = cond (is_same_file file (file_of layout log.page)) (losses_in log.entries) 0

-- the word that a translation has where the page is in this state and its cache word is this: in use it names the frame,
-- barred it is a poison entry
abbrev pub fitting_word : PageState → ℕ → ℕ → ℕ
fitting_word s cache slot = cond (set.contains s.maps slot) cache (cond (set.contains s.bar slot) (pte_word ptes.Poison) 0)

-- these words for the translations from a number on, and 0 for those of other pages
abbrev pub fitting_from : Page → PageState → ℕ → ℕ → List TransDecl → List ℕ
fitting_from page s cache slot [] = []
fitting_from page s cache slot (t ∷ ts) = cond (t.page.0 == page.0) (fitting_word s cache slot) 0 ∷ fitting_from page s cache (suc slot) ts

abbrev pub fitting : Layout → Page → PageState → ℕ → List ℕ
fitting layout page s cache = fitting_from page s cache 0 layout.trans
