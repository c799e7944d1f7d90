-- What each failure of a layer below is to work on the tables.
use Rattle.store_kv.specs.declared.keeper.KeepFail.{KeepFail}
use Rattle.store_kv.specs.declared.keeper.KeepFail.TheVariants as keeper
use Rattle.store_codec.specs.declared.fail.CodecFail.{CodecFail}
use Rattle.store_codec.specs.declared.fail.CodecFail.TheVariants as codec
use Rattle.store_rows.specs.declared.fail.StoreFail.{StoreFail}
use Rattle.store_rows.specs.declared.fail.StoreFail.TheVariants as store

abbrev pub of_keeper : KeepFail → StoreFail
of_keeper keeper.Failed = store.Keeper
of_keeper keeper.Memory = store.Memory

abbrev pub of_codec : CodecFail → StoreFail
of_codec codec.Damaged = store.Damaged
of_codec codec.Memory = store.Memory
