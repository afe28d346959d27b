use Rattle.pm_reader.proofs.Common.{◌∙◌}
use Rattle.pm_reader.proofs.RecentLemmas.{fetched_put}
use Rattle.pm_reader.proofs.cache.recent.LruDirCacheDirectoryCache.get_dir_entry_or_insert.Goals as goal

pub returns-in_ok-directory-in-NotCached-clause-leaves : goal.returns-in_ok-directory-in-NotCached-clause-leaves
returns-in_ok-directory-in-NotCached-clause-leaves g c =
    fetched_put c.args.self.now.directories c.get_dir_entry.new.self.directories c.insert_dir.new.self.directories c.args.offset c.args.tile_id _ c.in_ok-directory-in-NotCached.directory c.copied-found.result c.insert_dir.result
    c.in-NotCached.ensures.answer c.get_dir_entry.ensures.uses c.in_ok-directory-in-NotCached.ensures (c.copied-found.ensures ∙ c.find_tile_id.ensures) c.insert_dir.ensures.puts
