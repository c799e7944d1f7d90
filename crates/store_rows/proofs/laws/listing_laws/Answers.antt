use Rattle.store_rows.proofs.Listings.{listed_is, lists_are}
use Rattle.store_rows.proofs.Pages.{first_kept, page_is}
use Rattle.store_rows.proofs.laws.listing_laws.Goals as goal

pub returns : goal.returns
returns g c = record {
  listed = λ reach m rows from below listed reached h l. listed_is g.R.RowForm.form reach m rows from below h reached c.walk_laws.ensures.listed listed l;
  lists = λ reach m rows from below listed reached h all same. lists_are g.R.RowForm.form reach m rows from below h reached c.shape_laws.ensures.again c.walk_laws.ensures.is_listing listed all same;
  kept = λ reach m rows from above listed limit reached h l. first_kept g.R.RowForm.form c.shape_laws.ensures.again c.walk_laws.ensures.listed reach m rows from above listed limit reached h l;
  page = λ reach m rows from above listed given limit reached h l fits is. page_is g.R.RowForm.form c.shape_laws.ensures.again c.walk_laws.ensures.listed reach m rows from above listed given limit reached h l fits is;
}
