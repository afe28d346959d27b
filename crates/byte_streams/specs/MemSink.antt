-- a sink in memory
use Rattle.byte_streams.specs.Common.{FailingCalls}
use Rattle.byte_streams.specs.declared.mem_sink.MemSink.{MemSink}

-- which calls fail, and how many were made and failed
abbrev pub failing_of : MemSink → FailingCalls
failing_of s = s.failing
