-- Small worlds and messages for rows worked by hand. A reader of the rules may pass them over.
use Rattle.std.specs.Prelude.{ℕ, List, [], ◌++◌, Some, codes}
use Rattle.sha2.specs.Sha256.{sha256}
use Rattle.model.specs.Organisations.{with_org}
use Rattle.model.specs.Step.{Message}
use Rattle.model.specs.World.{World}

-- one organisation, as it is added
abbrev pub acme : World
acme = with_org [] (codes "Acme") (sha256 (codes "abc!d"))

-- its administrator sends this query string
abbrev pub asks_by : (pairs : List ℕ) → Message
asks_by pairs =
    record {
      method = codes "GET";
      target = codes "/services/data/v59.0/query?" ++ pairs;
      bearer = Some (codes "00D000000000001!005000000000000AAA!abc!d");
      body = [];
    }
