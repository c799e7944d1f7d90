use Rattle.model_requests.proofs.RequestsFit.{request_fits}
use Rattle.model_requests.proofs.fits.requests_fit.Goals as goal

pub returns : goal.returns
returns c = record { request = λ a r body x sound e. request_fits c.value_laws.ensures.read c.json_laws.ensures.spelled a body x sound r e }
