-- Which calls of an object in memory fail, and what is counted.
use Rattle.std.specs.Prelude.{◌==◌, Bool, if◌then◌else◌}
use Rattle.std.specs.List.{list_any}
use Rattle.base_values.specs.Counts.{one_more}
use Rattle.base_values.specs.declared.failing_calls.FailingCalls.{FailingCalls}

-- whether the next call is listed
abbrev pub next_fails : FailingCalls → Bool
next_fails f = list_any (λ call. call == one_more f.calls) f.listed.items

-- after a call: it is counted, and a fault where it fails
abbrev pub called : FailingCalls → FailingCalls
called f = record f { calls = one_more f.calls; faults = if next_fails f then one_more f.faults else f.faults }
