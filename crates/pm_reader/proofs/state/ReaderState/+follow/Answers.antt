use Rattle.pm_reader.proofs.Common.{ap, arith, entry_from, reached_last, reached_none, reached_tile, ◌∙◌}
use Rattle.pm_reader.proofs.FollowingToldLemmas.{is_leaf, is_tile, told_none, told_on, told_refused}
use Rattle.pm_reader.proofs.state.ReaderState.+follow.Goals as goal

pub returns-in_default-clause-way : goal.returns-in_default-clause-way
returns-in_default-clause-way g t c =
    told_none (g.B.Backend.told c.args.backend.now) c.args.self.now.header c.args.self.now.root c.args.tile_id c.args.left c.args.found _ _ _ _
    (λ b. ap (entry_from c.args.left c.args.self.now.header b c.args.tile_id) c.in_default.is ∙ ap (λ r. r.entry) (reached_none c.args.left c.args.self.now.header b c.args.tile_id))

pub returns-then-not-is_leaf-clause-way : goal.returns-then-not-is_leaf-clause-way
returns-then-not-is_leaf-clause-way g t c =
    told_none (g.B.Backend.told c.args.backend.now) c.args.self.now.header c.args.self.now.root c.args.tile_id c.args.left c.args.found _ _ _ _
    (λ b. ap (entry_from c.args.left c.args.self.now.header b c.args.tile_id) c.in-Some.is ∙ ap (λ r. r.entry) (reached_tile c.args.left c.args.self.now.header b c.args.tile_id c.in-Some.entry (is_tile _ _ c.is_leaf.ensures c.if-not-is_leaf.true)))

pub returns-then-left-eq0-clause-way : goal.returns-then-left-eq0-clause-way
returns-then-left-eq0-clause-way g t c =
    told_none (g.B.Backend.told c.args.backend.now) c.args.self.now.header c.args.self.now.root c.args.tile_id c.args.left c.args.found _ _ _ _
    (λ b. ap (λ n. entry_from n c.args.self.now.header b c.args.tile_id c.args.found) c.if-left-eq0.true
    ∙ (ap (entry_from 0 c.args.self.now.header b c.args.tile_id) c.in-Some.is ∙ ap (λ r. r.entry) (reached_last c.args.self.now.header b c.args.tile_id c.in-Some.entry (is_leaf _ _ c.is_leaf.ensures c.if-not-is_leaf.false))))

pub returns-in_err-next-clause-way : goal.returns-in_err-next-clause-way
returns-in_err-next-clause-way g t c =
    told_refused (g.B.Backend.told c.args.backend.now) c.args.self.now.header c.args.self.now.root c.args.tile_id c.args.left c.args.found c.in-Some.entry _ _ (g.C.DirectoryCache.held c.args.cache.now) _ _ _ c.in_err-next.field-0.0 c.from_residual.result
    (omega arith) c.requires.few c.in-Some.is (is_leaf _ _ c.is_leaf.ensures c.if-not-is_leaf.false) c.in_err-next.ensures.answer c.in_err-next.ensures.trusted c.from_residual.ensures.1 c.in_err-next.ensures.reads

pub returns-clause-way : goal.returns-clause-way
returns-clause-way g t c =
    told_on (g.B.Backend.told c.args.backend.now) _ c.args.self.now.header c.args.self.now.root c.args.tile_id c.args.left c.args.found c.in-Some.entry c.in_ok-next.next _ _ _ (g.C.DirectoryCache.held c.args.cache.now) (g.C.DirectoryCache.held c.find_in_leaf.new.cache) _ _ (g.C.DirectoryCache.idle c.find_in_leaf.new.cache) _ c.follow.result
    c.in_ok-next.ensures.kept.told (omega arith) c.requires.few c.in-Some.is (is_leaf _ _ c.is_leaf.ensures c.if-not-is_leaf.false) c.in_ok-next.ensures.answer c.in_ok-next.ensures.trusted c.in_ok-next.ensures.reads c.follow.ensures.way
