mod Forms
mod Places
