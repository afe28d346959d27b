use Rattle.pm_writer.proofs.Common.{finished, length, length-set, rules, set, ◌∙◌, ◌≡◌}
use Rattle.pm_writer.proofs.LastPieces.{on_ok_map, after_header, after_label, after_leaves, after_root, stops_in_header, stops_in_label, stops_in_root}
use Rattle.pm_writer.proofs.pieces.write_parts.Goals as goal

pub returns-in_err-put-2-clause-shown : goal.returns-in_err-put-2-clause-shown
returns-in_err-put-2-clause-shown g c =
    let a = after_leaves c.args.end c.args.below.now _ _ c.requires.open c.in_ok-put.ensures.done in
    stops_in_root c.args.end (λ b. finished b c.args.below.now c.args.root.now c.args.header.now) c.args.below.now c.args.root.now _ _ _ c.requires.front a c.put-2.ensures.part

pub returns-in_err-put-3-clause-shown : goal.returns-in_err-put-3-clause-shown
returns-in_err-put-3-clause-shown g c =
    let size : length c.args.header.now ≡ 127 = search rules in
    let a = after_leaves c.args.end c.args.below.now _ _ c.requires.open c.in_ok-put.ensures.done in
    let b = after_root c.args.end c.args.below.now c.args.root.now _ _ _ c.requires.front c.requires.small a c.in_ok-put-2.ensures.done in
    stops_in_header c.args.end (λ b. finished b c.args.below.now c.args.root.now c.args.header.now) c.args.below.now c.args.root.now c.args.header.now _ _ _ c.requires.front size b c.put-3.ensures.part

pub returns-clause-done : goal.returns-clause-done
returns-clause-done g c =
    let size : length c.args.header.now ≡ 127 = search rules in
    let zeroed : length (set c.args.header.now 97 0) ≡ 127 = length-set c.args.header.now 97 0 ∙ size in
    let a = after_leaves c.args.end c.args.below.now _ _ c.requires.open c.in_ok-put.ensures.done in
    let b = after_root c.args.end c.args.below.now c.args.root.now _ _ _ c.requires.front c.requires.small a c.in_ok-put-2.ensures.done in
    let d = after_header c.args.end c.args.below.now c.args.root.now (set c.args.header.now 97 0) _ _ _ c.requires.front zeroed b c.in_ok-put-3.ensures.done in
    on_ok_map _ _ c.put-4.result (λ e. after_label c.args.below.now c.args.root.now c.args.header.now _ _ _ size d e) c.put-4.ensures.done

pub returns-clause-shown : goal.returns-clause-shown
returns-clause-shown g c =
    let size : length c.args.header.now ≡ 127 = search rules in
    let zeroed : length (set c.args.header.now 97 0) ≡ 127 = length-set c.args.header.now 97 0 ∙ size in
    let a = after_leaves c.args.end c.args.below.now _ _ c.requires.open c.in_ok-put.ensures.done in
    let b = after_root c.args.end c.args.below.now c.args.root.now _ _ _ c.requires.front c.requires.small a c.in_ok-put-2.ensures.done in
    let d = after_header c.args.end c.args.below.now c.args.root.now (set c.args.header.now 97 0) _ _ _ c.requires.front zeroed b c.in_ok-put-3.ensures.done in
    stops_in_label c.args.below.now c.args.root.now c.args.header.now _ _ _ size d c.put-4.ensures.part
