use Rattle.pm_reader.proofs.Common.{Entry, length, List, Puts, subst}
use Rattle.pm_reader.proofs.RecentLemmas.{adds_put, held_put}
use Rattle.pm_reader.proofs.cache.recent.LruDirCacheDirectoryCache.insert_dir.Goals as goal

pub returns-clause-kept : goal.returns-clause-kept
returns-clause-kept c =
    let P : List Entry → Type 0 = λ d. Puts length c.args.self.now.directories c.insert.new.self c.args.offset d c.insert.result in
    held_put c.args.self.now.directories c.insert.new.self c.args.offset c.args.directory c.insert.result (subst P c.new.ensures c.insert.ensures.puts) c.insert.ensures.within

pub returns-clause-adds : goal.returns-clause-adds
returns-clause-adds c =
    let P : List Entry → Type 0 = λ d. Puts length c.args.self.now.directories c.insert.new.self c.args.offset d c.insert.result in
    adds_put c.args.self.now.directories c.insert.new.self c.args.offset c.args.directory c.insert.result (subst P c.new.ensures c.insert.ensures.puts)
