-- The numbers of the types of records. Assumes nothing: these are definitions.
use Rattle.std.specs.Prelude.{◌≡◌, ◌<◌, ℕ, Result, MatchResult}
use Rattle.meaning.specs.declared.Kind.{Kind}
use Rattle.meaning.specs.declared.Kind.TheVariants.{Mmap, Lost, Comm, Exit, Throttle, Unthrottle, Fork, Read, Sample, Mmap2, Aux, ItraceStart, LostSamples, Switch, SwitchCpuWide, Namespaces, Ksymbol, BpfEvent, Cgroup, TextPoke, AuxOutputHwId}
use Rattle.meaning.specs.declared.UnknownKind.{UnknownKind}

abbrev pub kind_number : Kind → ℕ
kind_number Mmap = 1
kind_number Lost = 2
kind_number Comm = 3
kind_number Exit = 4
kind_number Throttle = 5
kind_number Unthrottle = 6
kind_number Fork = 7
kind_number Read = 8
kind_number Sample = 9
kind_number Mmap2 = 10
kind_number Aux = 11
kind_number ItraceStart = 12
kind_number LostSamples = 13
kind_number Switch = 14
kind_number SwitchCpuWide = 15
kind_number Namespaces = 16
kind_number Ksymbol = 17
kind_number BpfEvent = 18
kind_number Cgroup = 19
kind_number TextPoke = 20
kind_number AuxOutputHwId = 21

-- the type with a number; or the number, which no type has
abbrev pub Numbered : ℕ → Result Kind UnknownKind → Type 0
Numbered number found = MatchResult found (λ kind. kind_number kind ≡ number) (λ none. (none.0 ≡ number) × ((0 < number → 21 < number)))
