use Rattle.pm_reader.proofs.Common.{arith}
use Rattle.pm_reader.proofs.TrustLemmas.{told_kept, told_more}
use Rattle.pm_reader.proofs.state.ReaderState.find_in_leaf.Goals as goal

pub returns-in_err-directory-in-NotCached-clause-trusted : goal.returns-in_err-directory-in-NotCached-clause-trusted
returns-in_err-directory-in-NotCached-clause-trusted g c = told_kept (g.B.Backend.told c.args.backend.now) c.args.self.now.header c.args.self.now.root c.args.leaf _ _ _ _ c.get_dir_entry.ensures.adds c.get_dir_entry.ensures.idle

pub returns-in-Found-clause-trusted : goal.returns-in-Found-clause-trusted
returns-in-Found-clause-trusted g c = told_kept (g.B.Backend.told c.args.backend.now) c.args.self.now.header c.args.self.now.root c.args.leaf _ _ _ _ c.get_dir_entry.ensures.adds c.get_dir_entry.ensures.idle

pub returns-in-NotFound-clause-trusted : goal.returns-in-NotFound-clause-trusted
returns-in-NotFound-clause-trusted g c = told_kept (g.B.Backend.told c.args.backend.now) c.args.self.now.header c.args.self.now.root c.args.leaf _ _ _ _ c.get_dir_entry.ensures.adds c.get_dir_entry.ensures.idle

pub returns-in_ok-directory-in-NotCached-clause-trusted : goal.returns-in_ok-directory-in-NotCached-clause-trusted
returns-in_ok-directory-in-NotCached-clause-trusted g c =
    told_more (g.B.Backend.told c.args.backend.now) c.args.self.now.header c.args.self.now.root _ (g.C.DirectoryCache.held c.get_dir_entry.new.self) _ _ (g.C.DirectoryCache.idle c.get_dir_entry.new.self) _ c.args.leaf c.in_ok-directory-in-NotCached.directory c.in-Some.at
    c.get_dir_entry.ensures.adds c.get_dir_entry.ensures.idle c.insert_dir.ensures.adds (grind arith) c.in_ok-directory-in-NotCached.ensures.answer c.insert_dir.ensures.idle (λ i o. g.met.C.DirectoryCache.idle_is_empty _ o i)
