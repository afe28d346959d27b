use Rattle.tileset.proofs.Common.{Given, IsScript, outcome_of, rules, script_text}
use Rattle.tileset.proofs.AnswerLemmas.{exact_by, exact_unread}
use Rattle.tileset.proofs.PrintedLemmas.{printed_by}
use Rattle.tileset.proofs.RunLemmas.{causes_by, medium_by, output_by}
use Rattle.tileset.proofs.StandsLemmas.{input_stands}
use Rattle.tileset.proofs.top_call.attempt.Goals as goal

pub returns-in_err-script-clause-exact : goal.returns-in_err-script-clause-exact
returns-in_err-script-clause-exact g c =
    let given : Given = record { words = c.args.words.now; input = g.I.Source.left c.args.input.now; medium = g.M.Backend.told c.args.medium.now } in
    exact_unread given c.in-Some.command c.in_err-script.field-0.0 c.from_residual.result (search rules) c.in_err-script.ensures.causes c.from_residual.ensures.1

pub returns-clause-exact : goal.returns-clause-exact
returns-clause-exact g c =
    let given : Given = record { words = c.args.words.now; input = g.I.Source.left c.args.input.now; medium = g.M.Backend.told c.args.medium.now } in
    let s = script_text c.in_ok-script.script in
    let is : IsScript given s = record { asked = c.in-Some.command; words = search rules; script = c.in_ok-script.ensures.script } in
    exact_by given s _ is c.convert_script.ensures.exact

pub returns-clause-causes : goal.returns-clause-causes
returns-clause-causes g c =
    let given : Given = record { words = c.args.words.now; input = g.I.Source.left c.args.input.now; medium = g.M.Backend.told c.args.medium.now } in
    let s = script_text c.in_ok-script.script in
    let is : IsScript given s = record { asked = c.in-Some.command; words = search rules; script = c.in_ok-script.ensures.script } in
    causes_by given s _ is c.convert_script.ensures.causes

pub returns-clause-medium : goal.returns-clause-medium
returns-clause-medium g c =
    let given : Given = record { words = c.args.words.now; input = g.I.Source.left c.args.input.now; medium = g.M.Backend.told c.args.medium.now } in
    let s = script_text c.in_ok-script.script in
    let is : IsScript given s = record { asked = c.in-Some.command; words = search rules; script = c.in_ok-script.ensures.script } in
    medium_by given s _ _ is c.convert_script.ensures.medium

pub returns-clause-output : goal.returns-clause-output
returns-clause-output g c =
    let given : Given = record { words = c.args.words.now; input = g.I.Source.left c.args.input.now; medium = g.M.Backend.told c.args.medium.now } in
    let s = script_text c.in_ok-script.script in
    let is : IsScript given s = record { asked = c.in-Some.command; words = search rules; script = c.in_ok-script.ensures.script } in
    output_by given s _ _ _ _ is c.convert_script.ensures.output

pub returns-clause-printed : goal.returns-clause-printed
returns-clause-printed g c =
    let given : Given = record { words = c.args.words.now; input = g.I.Source.left c.args.input.now; medium = g.M.Backend.told c.args.medium.now } in
    let s = script_text c.in_ok-script.script in
    let is : IsScript given s = record { asked = c.in-Some.command; words = search rules; script = c.in_ok-script.ensures.script } in
    printed_by given s _ _ _ is c.convert_script.ensures.printed

pub returns-clause-input_still : goal.returns-clause-input_still
returns-clause-input_still g c = input_stands _ _ (outcome_of c.convert_script.result) c.in_ok-script.ensures.input_still
