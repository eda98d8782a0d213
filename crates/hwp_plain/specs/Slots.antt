-- The slots of the frames, and then the shelves of the pages.
use Rattle.std.specs.Prelude.{List, Option, Some, None, option_map}
use Rattle.hwp_core_rule.specs.hwp_geom.declared.Layout.{Layout}
use Rattle.hwp_core_rule.specs.hwp_page.History.{BodyValue}
use Rattle.hwp_core_rule.specs.declared.Log.{Log}
use Rattle.hwp_core_rule.specs.Lists.{EachMember}
use Rattle.hwp_core_rule.specs.Logs.{log_of}
use Rattle.hwp_core_rule.specs.Calls.{FitsLayout}
use Rattle.hwp_plain.specs.declared.slot.Slot.{Slot}
use Rattle.hwp_plain.specs.declared.slot.Slot.TheVariants.{Home, Out}

-- a slot at home has its content
abbrev pub home_of : Slot → Option (Option Log)
home_of (Home body) = Some (option_map log_of body)
home_of Out = None

-- a slot at home with this body, and the body in a slot
abbrev pub in_slot : Option BodyValue → Slot
in_slot body = Home body

abbrev pub body_in : Slot → Option BodyValue
body_in (Home body) = body
body_in Out = None

-- a body in a slot is of the layout
abbrev pub IsSlotOf : Layout → Slot → Type 0
IsSlotOf layout (Home body) = FitsLayout layout body
IsSlotOf layout Out = Unit {0}

abbrev pub AreOfLayout : Layout → List Slot → Type 0
AreOfLayout layout slots = EachMember (IsSlotOf layout) slots
