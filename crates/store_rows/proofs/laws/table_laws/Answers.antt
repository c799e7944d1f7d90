use Rattle.store_rows.proofs.HoldsLaws as holds
use Rattle.store_rows.proofs.KeyBytes as bytes
use Rattle.store_rows.proofs.KeyLaws as keys
use Rattle.store_rows.proofs.laws.table_laws.Goals as goal

pub returns : goal.returns
returns c =
    let again = c.shape_laws.ensures.again in
    let exact = c.key_laws.ensures.exact in
    record {
      equal = keys.key_eq_decides;
      apart = keys.spell_same again;
      empty = holds.holds_empty;
      put = holds.holds_put again exact;
      removed = holds.holds_removed again exact;
      same = holds.holds_same;
      bytes = bytes.key_bytes_of c.shape_laws.ensures.bytes;
      under = bytes.under c.shape_laws.ensures.bytes c.key_laws.ensures.interval;
      ends = bytes.ends;
    }
