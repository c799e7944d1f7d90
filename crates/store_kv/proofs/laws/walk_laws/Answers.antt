use Rattle.store_kv.proofs.Listing as listing
use Rattle.store_kv.proofs.Walk as walk
use Rattle.store_kv.proofs.Paging as paging
use Rattle.store_kv.proofs.Splits.{split}
use Rattle.store_kv.proofs.laws.walk_laws.Goals as goal

pub returns : goal.returns
returns c = record {
  is_listing = walk.is_listing;
  listed = listing.listed;
  after_zero = walk.after_zero;
  page_rest = walk.page_rest;
  page_step = paging.page_step;
  page_end = paging.page_end;
  split = split;
}
