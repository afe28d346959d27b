-- a source in memory
use Rattle.byte_streams.specs.Common.{FailingCalls}
use Rattle.byte_streams.specs.declared.mem_source.MemSource.{MemSource}

-- which calls fail, and how many were made and failed
abbrev pub failing_of : MemSource → FailingCalls
failing_of s = s.failing
