-- Where a scan of a source stands: a word of private functions' contracts alone.
use Rattle.csv.specs.declared.parser.State.{State}
use Rattle.csv.specs.declared.parser.State.TheVariants as st
use Rattle.base_csv.specs.declared.place.Spot.{Spot}
use Rattle.base_csv.specs.declared.place.Spot.TheVariants as spot

-- the state of `csv` there
abbrev pub state_at : Spot → State
state_at spot.Between = st.StartRecord
state_at spot.AfterReturn = st.AfterCr
state_at spot.CellStart = st.StartField
state_at spot.Plain = st.InField
state_at spot.Quoted = st.InQuoted
state_at spot.AfterQuote = st.AfterQuote
