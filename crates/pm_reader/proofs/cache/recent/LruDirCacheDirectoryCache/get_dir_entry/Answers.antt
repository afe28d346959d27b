use Rattle.pm_reader.proofs.RecentLemmas.{same_after_use}
use Rattle.pm_reader.proofs.cache.recent.LruDirCacheDirectoryCache.get_dir_entry.Goals as goal

pub returns-clause-same : goal.returns-clause-same
returns-clause-same c = same_after_use c.args.self.now.directories c.find.new.self.directories c.args.offset c.find.ensures.uses
