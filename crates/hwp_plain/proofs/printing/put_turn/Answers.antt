use Rattle.std.proofs.Common.{[], ◌∷◌, string_bytes, codes, decimal}
use Rattle.std.proofs.lemmas.Result.{on_ok_weaker}
use Rattle.hwp_script_words.specs.Kinds.{kind_text}
use Rattle.hwp_plain.specs.TraceText.{change_words, place_words, turn_word}
use Rattle.hwp_plain.proofs.SpacedWords.{put-whole}
use Rattle.hwp_plain.proofs.printing.put_turn.Goals as goal

pub returns : goal.returns
returns c =
    let t = c.args.told in
    on_ok_weaker c.put_end.result (λ is. put-whole (string_bytes c.args.out.now) (string_bytes c.put_head.new.out) (string_bytes c.put_place.new.out) (string_bytes c.put_word.new.out) (string_bytes c.put_change.new.out) (string_bytes c.put_end.new.out)
    (decimal c.args.number ∷ decimal t.who.cpu.0 ∷ decimal t.who.seq ∷ kind_text t.kind ∷ []) (place_words t.place) (change_words t.place t.before t.after) (codes ":") (turn_word t.turn ∷ [])
    c.in_ok-put_head.ensures c.in_ok-put_place.ensures c.in_ok-put_word.ensures c.in_ok-put_change.ensures is) c.put_end.ensures
