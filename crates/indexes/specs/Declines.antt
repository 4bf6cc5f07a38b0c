-- The number of each decline. Assumes nothing.
use Rattle.std.specs.Prelude.{ℕ}
use Rattle.indexes.specs.declared.decline.Decline.{Decline}
use Rattle.indexes.specs.declared.decline.Decline.TheVariants as decline

abbrev pub number_of : Decline → ℕ
number_of decline.NodeSize = 1
number_of decline.TooManyRows = 2
number_of decline.OutOfOrder = 3
number_of decline.SlotCount = 4
number_of decline.SlotDiffers = 5
number_of decline.NoSuchRow = 6
number_of decline.AlreadySo = 7
number_of decline.ListFull = 8
number_of decline.BeforeAllRows = 9
number_of decline.BoundsReversed = 10
number_of decline.TableTooSmall = 11
number_of decline.MalformedSheet = 12
