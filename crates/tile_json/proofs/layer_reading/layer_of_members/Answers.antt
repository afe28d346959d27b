use Rattle.tile_json.proofs.Common.{ap, empty, layer_with, members_view, Some, with_all, ◌∙◌}
use Rattle.tile_json.proofs.LayerLemmas.{handed_on, read_id, read_fields, read_description, read_minzoom, read_maxzoom, others_are, no_fields, no_description, no_minzoom, no_maxzoom, whole_layer}
use Rattle.tile_json.proofs.layer_reading.layer_of_members.Goals as goal

-- a member that is refused leaves no layer
pub returns-in_err-fields : goal.returns-in_err-fields
returns-in_err-fields c =
    let ms = members_view c.args.members.entries in
    let first = members_view c.take_member.new.members.entries in
    let id = read_id ms _ _ c.take_member.ensures.value c.in_ok-id.ensures in
    handed_on _ (layer_with ms) _ _ c.from_residual-in_err-fields.ensures.1 c.in_err-fields.ensures
    (λ none. no_fields ms _ id (read_fields ms first c.take_member.ensures.left _ _ c.take_member-2.ensures.value none))

pub returns-in_err-description : goal.returns-in_err-description
returns-in_err-description c =
    let ms = members_view c.args.members.entries in
    let first = members_view c.take_member.new.members.entries in
    let second = members_view c.take_member-2.new.members.entries in
    let id = read_id ms _ _ c.take_member.ensures.value c.in_ok-id.ensures in
    let fields = read_fields ms first c.take_member.ensures.left _ _ c.take_member-2.ensures.value c.in_ok-fields.ensures in
    handed_on _ (layer_with ms) _ _ c.from_residual-in_err-description.ensures.1 c.in_err-description.ensures
    (λ none. no_description ms _ _ id fields (read_description ms first c.take_member.ensures.left second c.take_member-2.ensures.left _ _ c.take_member-3.ensures.value none))

pub returns-in_err-minzoom : goal.returns-in_err-minzoom
returns-in_err-minzoom c =
    let ms = members_view c.args.members.entries in
    let first = members_view c.take_member.new.members.entries in
    let second = members_view c.take_member-2.new.members.entries in
    let third = members_view c.take_member-3.new.members.entries in
    let id = read_id ms _ _ c.take_member.ensures.value c.in_ok-id.ensures in
    let fields = read_fields ms first c.take_member.ensures.left _ _ c.take_member-2.ensures.value c.in_ok-fields.ensures in
    let description = read_description ms first c.take_member.ensures.left second c.take_member-2.ensures.left _ _ c.take_member-3.ensures.value c.in_ok-description.ensures in
    handed_on _ (layer_with ms) _ _ c.from_residual-in_err-minzoom.ensures.1 c.in_err-minzoom.ensures
    (λ none. no_minzoom ms _ _ id fields _ description
    (read_minzoom ms first c.take_member.ensures.left second c.take_member-2.ensures.left third c.take_member-3.ensures.left _ _ c.take_member-4.ensures.value none))

pub returns-in_err-maxzoom : goal.returns-in_err-maxzoom
returns-in_err-maxzoom c =
    let ms = members_view c.args.members.entries in
    let first = members_view c.take_member.new.members.entries in
    let second = members_view c.take_member-2.new.members.entries in
    let third = members_view c.take_member-3.new.members.entries in
    let fourth = members_view c.take_member-4.new.members.entries in
    let id = read_id ms _ _ c.take_member.ensures.value c.in_ok-id.ensures in
    let fields = read_fields ms first c.take_member.ensures.left _ _ c.take_member-2.ensures.value c.in_ok-fields.ensures in
    let description = read_description ms first c.take_member.ensures.left second c.take_member-2.ensures.left _ _ c.take_member-3.ensures.value c.in_ok-description.ensures in
    let minzoom = read_minzoom ms first c.take_member.ensures.left second c.take_member-2.ensures.left third c.take_member-3.ensures.left _ _ c.take_member-4.ensures.value c.in_ok-minzoom.ensures in
    handed_on _ (layer_with ms) _ _ c.from_residual-in_err-maxzoom.ensures.1 c.in_err-maxzoom.ensures
    (λ none. no_maxzoom ms _ _ id fields _ description _ minzoom
    (read_maxzoom ms first c.take_member.ensures.left second c.take_member-2.ensures.left third c.take_member-3.ensures.left fourth c.take_member-4.ensures.left _ _ c.take_member-5.ensures.value none))

-- all of them are there, and the others are what is left
pub returns : goal.returns
returns c =
    let ms = members_view c.args.members.entries in
    let first = members_view c.take_member.new.members.entries in
    let second = members_view c.take_member-2.new.members.entries in
    let third = members_view c.take_member-3.new.members.entries in
    let fourth = members_view c.take_member-4.new.members.entries in
    let id = read_id ms _ _ c.take_member.ensures.value c.in_ok-id.ensures in
    let fields = read_fields ms first c.take_member.ensures.left _ _ c.take_member-2.ensures.value c.in_ok-fields.ensures in
    let description = read_description ms first c.take_member.ensures.left second c.take_member-2.ensures.left _ _ c.take_member-3.ensures.value c.in_ok-description.ensures in
    let minzoom = read_minzoom ms first c.take_member.ensures.left second c.take_member-2.ensures.left third c.take_member-3.ensures.left _ _ c.take_member-4.ensures.value c.in_ok-minzoom.ensures in
    let maxzoom = read_maxzoom ms first c.take_member.ensures.left second c.take_member-2.ensures.left third c.take_member-3.ensures.left fourth c.take_member-4.ensures.left _ _ c.take_member-5.ensures.value c.in_ok-maxzoom.ensures in
    let rest = others_are ms first c.take_member.ensures.left second c.take_member-2.ensures.left third c.take_member-3.ensures.left fourth c.take_member-4.ensures.left (members_view c.take_member-5.new.members.entries) c.take_member-5.ensures.left in
    whole_layer ms _ _ id fields _ description _ minzoom _ _ maxzoom (ap (λ others. Some (with_all empty others)) rest ∙ c.in_ok-other.ensures)
