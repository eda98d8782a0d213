-- What a command has given to the collector: as it goes on, and where its own task rests.
use Rattle.hwp_law_served.specs.Served.{IsOffliningServed}
use Rattle.hwp_cpu_row.specs.hwp_claim.declared.EventOutcome.{EventOutcome}
use Rattle.hwp_cpu_row.specs.hwp_geom.declared.Who.{Who}
use Rattle.std.proofs.Common.{refl, Some, sym, append_assoc, ap, ◌+◌, ◌++◌, List, ◌≡◌, ◌≤◌, map, None, true, false, ℕ, subst, length, Option, arith, true≢false, ◌∙◌}
use Rattle.std.proofs.lemmas.List.{map-append, length-append, take-append-le, take_all}
use Rattle.hwp_cpu_row.specs.Locals.{Collects, IsCollecting, IsWatching, collects}
use Rattle.std.specs.Prelude.{take, IsSome}
use Rattle.hwp_cpu_row.specs.declared.Watching.{Watching}
use Rattle.hwp_cpu_row.specs.hwp_core_rule.Lists.{EachMember}
use Rattle.hwp_cpu_row.specs.hwp_geom.declared.Layout.{Layout}
use Rattle.hwp_cpu_row.specs.Acts.{AreInTime, told_notes}
use Rattle.hwp_cpu.specs.declared.course.Course.{Course}
use Rattle.hwp_cpu.specs.Serving.{noting, noted_by, KeepsWatch}
use Rattle.hwp_cpu_row.specs.hwp_core_rule.declared.View.{View}
use Rattle.hwp_cpu_command.specs.Jobs.{told_of}
use Rattle.hwp_cpu_row.specs.hwp_law.Watched.{Watched, due, offlining, told}
use Rattle.hwp_cpu.specs.Courses.{told_since}
use Rattle.hwp_cpu_row.specs.Dues.{DueValue}
use Rattle.hwp_cpu_row.specs.hwp_script_words.declared.Command.{Command}
use Rattle.hwp_cpu_row.specs.hwp_geom.declared.Frame.{Frame}
use Rattle.hwp_cpu_row.specs.declared.Offlining.{Offlining}
use Rattle.hwp_cpu_row.specs.hwp_cec.Ages.{CecEvent, Note}
use Rattle.hwp_cpu_row.specs.hwp_cec.Counters.{Counters, StandsFor}
use Rattle.hwp_cpu_row.proofs.Acts.{in-time-more}
use Rattle.hwp_cpu_row.proofs.of_hwp_law.NoteLaws.{offlining-append}

-- ---- as the command goes on

-- no event is taken back, and the collector gets none
pub keeps-longer : (layout : Layout) (view : View) (who : Who) (list : List Command) (watched : Option Watched) (c d : Course) → (more : List EventOutcome) × (told_of d.own ≡ told_of c.own ++ more)
    → d.noted ≡ c.noted → d.frames ≡ c.frames → d.watching ≡ c.watching → d.due ≡ c.due → KeepsWatch layout view who list watched c → KeepsWatch layout view who list watched d
keeps-longer layout view who list watched c d (more, longer) noted frames watching due_is was = record {
  few = let most : c.noted ≤ length (told_of c.own) = was.few in let all : length (told_of d.own) ≡ length (told_of c.own) + length more = many in omega (arith, most, all, noted);
  frames_are = frames ∙ was.frames_are;
  watching = subst (λ (w : Option Watching). IsWatching layout.frames (noting (noted_by layout d) watched) w) (sym watching) (subst (λ (l : List Frame). IsWatching layout.frames (noting l watched) c.watching) (sym same) was.watching);
  room = λ has. subst (λ (w : Option Watching). IsSome w) (sym watching) (was.room has);
  due = ap (λ (v : DueValue). v.frames) due_is ∙ was.due ∙ ap (λ (l : List Frame). due watched l) (sym same);
  frames = subst (λ (v : DueValue). map (λ (o : Offlining). o.frame) v.offlined ≡ take (length v.offlined) v.frames) (sym due_is) was.frames;
  offlined = subst (λ (v : DueValue). EachMember (IsOffliningServed layout view who) v.offlined) (sym due_is) was.offlined;
  behind = subst (λ (v : DueValue). AreInTime 0 (length (told_of d.own)) v.offlined) (sym due_is)
      (in-time-more 0 (length (told_of c.own)) (length (told_of d.own)) c.due.offlined (let all : length (told_of d.own) ≡ length (told_of c.own) + length more = many in omega (arith, all)) was.behind);
}
  where
    many : length (told_of d.own) ≡ length (told_of c.own) + length more
    many = ap length longer ∙ length-append (told_of c.own) more

    same : noted_by layout d ≡ noted_by layout c
    same = ap (λ (n : ℕ). told_notes layout (take n (told_of d.own))) noted ∙ ap (λ (l : List EventOutcome). told_notes layout (take c.noted l)) longer
        ∙ ap (told_notes layout) (take-append-le c.noted (told_of c.own) more was.few)

-- ---- where its own task rests

-- a processor that doesn't collect has no collector yet
pub not-watched : (frames : ℕ) (notes : List Frame) (watched : Option Watched) (w : Option Watching) → collects w ≡ false → IsWatching frames (noting notes watched) w → watched ≡ None
not-watched frames notes None w off is = refl
not-watched frames notes (Some v) None off is = absurd is
not-watched frames notes (Some v) (Some w) off is = absurd (true≢false (sym is.0.on ∙ off))

-- one that collects has
is-watched : (frames : ℕ) (notes : List Frame) (watched : Option Watched) (w : Watching) → w.on ≡ true → IsWatching frames (noting notes watched) (Some w) → (v : Watched) × (watched ≡ Some v) × IsCollecting (told (map Note notes) v) w × (length w.collector.counts ≡ frames)
is-watched frames notes None w on is = absurd (true≢false (sym on ∙ is.0))
is-watched frames notes (Some v) w on is = (v, refl, is.0, is.1)

module _ (layout : Layout) (view : View) (who : Who) (list : List Command) (watched : Option Watched) (c : Course) (was : KeepsWatch layout view who list watched c) (all : length c.due.offlined ≡ length c.due.frames)
    (notes : told_notes layout (told_of c.own) ≡ noted_by layout c ++ told_notes layout (told_since c)) where
  abbrev given : List Frame
  given = noted_by layout c

  abbrev fresh : List Frame
  fresh = told_notes layout (told_since c)

  pub by-collector : (w : Watching) (watching_is : c.watching ≡ Some w) (on : w.on ≡ true) (counters : Counters) (more : List Frame) (spare : ℕ) → Collects fresh w.collector counters more
      → KeepsWatch layout view who list watched (record c { watching = Some (record w { collector = counters }); noted = length (told_of c.own); due = record { frames = c.due.frames ++ more; offlined = c.due.offlined; spare = spare } })
  by-collector w watching_is on counters more spare took = record {
    few = omega arith;
    frames_are = was.frames_are;
    watching = subst (λ (x : Option Watched). IsWatching layout.frames (noting noted_now x) (Some (record w { collector = counters }))) (sym of-watched.1)
        (subst (λ (l : List Frame). IsWatching layout.frames (Some (told (map Note l) v)) (Some (record w { collector = counters }))) (sym now) (
          record {
            on = on;
            threshold = took.threshold ∙ of-watched.2.threshold;
            window = took.window ∙ of-watched.2.window;
            stands = subst (λ (es : List CecEvent). StandsFor es counters) events (took.stands (v.events ++ map Note given) of-watched.2.stands).0;
          },
          took.many ∙ of-watched.3,
        ));
    room = λ has. refl;
    due = ap (λ (l : List Frame). l ++ more) (was.due ∙ ap (λ (x : Option Watched). due x given) of-watched.1) ∙ ap (λ (l : List Frame). offlining v given ++ l) due-more ∙ sym (offlining-append v given fresh)
        ∙ ap (offlining v) (sym now) ∙ ap (λ (x : Option Watched). due x noted_now) (sym of-watched.1);
    frames = was.frames ∙ sym (take-append-le (length c.due.offlined) c.due.frames more (omega (arith, all)));
    offlined = was.offlined;
    behind = was.behind;
  }
    where
      of-watched : (v : Watched) × (watched ≡ Some v) × IsCollecting (told (map Note given) v) w × (length w.collector.counts ≡ layout.frames)
      of-watched = is-watched layout.frames given watched w on (subst (IsWatching layout.frames (noting given watched)) watching_is was.watching)

      v : Watched
      v = of-watched.0

      noted_now : List Frame
      noted_now = told_notes layout (take (length (told_of c.own)) (told_of c.own))

      now : noted_now ≡ given ++ fresh
      now = ap (told_notes layout) (take_all (length (told_of c.own)) (told_of c.own) (omega arith)) ∙ notes

      events : (v.events ++ map Note given) ++ map Note fresh ≡ v.events ++ map Note (given ++ fresh)
      events = append_assoc v.events (map Note given) (map Note fresh) ∙ ap (λ (l : List CecEvent). v.events ++ l) (sym (map-append Note given fresh))

      due-more : more ≡ offlining (told (map Note given) v) fresh
      due-more = (took.stands (v.events ++ map Note given) of-watched.2.stands).1
          ∙ ap (λ (n : ℕ). offlining (record { threshold = n; window = w.collector.window; events = v.events ++ map Note given }) fresh) of-watched.2.threshold
          ∙ ap (λ (n : ℕ). offlining (record { threshold = v.threshold; window = n; events = v.events ++ map Note given }) fresh) of-watched.2.window

-- a course is the one with its own fields
pub keeps-same : (layout : Layout) (view : View) (who : Who) (list : List Command) (watched : Option Watched) (c : Course) → KeepsWatch layout view who list watched c
    → KeepsWatch layout view who list watched (record c { watching = c.watching; noted = c.noted; due = record { frames = c.due.frames; offlined = c.due.offlined; spare = c.due.spare } })
keeps-same layout view who list watched c has = record {
  few = has.few;
  frames_are = has.frames_are;
  watching = has.watching;
  room = has.room;
  due = has.due;
  frames = has.frames;
  offlined = has.offlined;
  behind = has.behind;
}

-- events that note nothing are passed over
pub keeps-noted : (layout : Layout) (view : View) (who : Who) (list : List Command) (watched : Option Watched) (c : Course) (noted : ℕ) → KeepsWatch layout view who list watched c → noted ≤ length (told_of c.own) → told_notes layout (take noted (told_of c.own)) ≡ noted_by layout c
    → KeepsWatch layout view who list watched (record c { noted = noted })
keeps-noted layout view who list watched c noted has few same = record {
  few = few;
  frames_are = has.frames_are;
  watching = subst (λ (l : List Frame). IsWatching layout.frames (noting l watched) c.watching) (sym same) has.watching;
  room = has.room;
  due = has.due ∙ ap (due watched) (sym same);
  frames = has.frames;
  offlined = has.offlined;
  behind = has.behind;
}
