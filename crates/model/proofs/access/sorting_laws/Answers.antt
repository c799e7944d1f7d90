use Rattle.model.proofs.Before.{before_ties, before_total, only, sorted}
use Rattle.model.proofs.access.sorting_laws.Goals as goal

pub returns : goal.returns
returns c =
    let values = c.order_laws.ensures.total in
    record {
      total = before_total values;
      ties = before_ties;
      sorted = sorted values;
      only = λ a keys rs ss differ. only values a keys rs differ ss;
    }
